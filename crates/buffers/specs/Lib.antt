-- What it is to put bytes into a lent buffer (`Put`), and by a writer (`Writing`).
-- Assumes nothing.
pub mod Put
pub mod Writing
