-- The laws of bytes put into a lent buffer: from places on (`Puts`), and by a writer (`Writers`).
-- Assumes nothing.
pub mod Puts
pub mod Writers
