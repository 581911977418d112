-- The laws of a joint's fields: `Order` says that a joint and its fields give one another back, and `Axial` says so of field 27.
-- They assume nothing.
pub mod Axial
pub mod Order
