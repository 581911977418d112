-- Rules 1.3 and 4.1: the distances about the bolts, m, e, mx and s, and the least that refusal 13 lets pass.
pub mod Spacing
