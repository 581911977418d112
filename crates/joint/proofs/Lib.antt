-- The laws of field checking (`Fields`), of fields in range (`InRange`), of rows by field 1 (`Faces`), and of a number by its sign
-- (`Signs`). They assume nothing.
pub mod Fields
pub mod Faces
pub mod InRange
pub mod Signs
