-- The laws of joint files. `RoundTrip` has the two of the whole file, which it makes of those of a face's part (`Parts`); `Ends` says what
-- reading leaves, `Places` what a caller of `read` leans on, and `Sizes` how many bytes a joint takes at least. The others carry the code
-- to the definitions. They assume nothing.
pub mod Faces
pub mod Answers
pub mod IfRoom
pub mod Ends
pub mod Places
pub mod Parts
pub mod RoundTrip
pub mod Sizes
