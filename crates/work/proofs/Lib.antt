-- The cases of Work's definition (`Cases`), and that it tells no joint by 14 (`Refusals`). They assume nothing.
pub mod Cases
pub mod Refusals
