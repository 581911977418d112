-- Rules 3.2, 3.7 and 3.8: a table's sizes, what loading it answers, and the table built in (`Loading`); the area that the table in force
-- lists for a diameter (`Area`). For the code and the crates above: how large what is listed can be (`InRange`), and the test of one size
-- after another (`Steps`).
pub mod Loading
pub mod Area
pub mod InRange
pub mod Steps
pub mod Lent
