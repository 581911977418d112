-- Rules 2.4, 7 and 11 of one face: what it comes to (`OneFace`), the refusals in their order and the answer (`Connection`), demand 3
-- (`Demand`), and what they say of a face with no rows (`NoRows`).
-- For the code: what its steps hand on (`Steps`).
pub mod OneFace
pub mod Connection
pub mod Demand
pub mod NoRows
pub mod Steps
