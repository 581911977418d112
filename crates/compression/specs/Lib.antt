-- Rules 5.1 to 5.5 and 5.9, the four resistances (`Compression`), and 5.8, the root that web buckling asks for (`Root`). What serves the
-- code: what is asked of a joint and how large its figures are (`InRange`).
pub mod Compression
pub mod Root
pub mod InRange
