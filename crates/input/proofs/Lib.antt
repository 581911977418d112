-- What reading into a part of a space adds to what was read before.
mod Parts
