-- The laws of the definitions: `Checks`, `Table` and `Greatest` of those named so, `Bounds` of ranges and of figures put together, `Tests`
-- of a test's two cases, `Store` of a number stored in a list. They assume nothing.
pub mod Checks
pub mod Bounds
pub mod Table
pub mod Greatest
pub mod Store
pub mod Tests
