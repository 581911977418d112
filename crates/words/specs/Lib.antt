-- A joint, what it comes to and a bolt table as the words that the exported calls lend. Rule 13.3: `Words` has the joint's fields in
-- their order, `Results` the items of a result; rule 13.6: `Tables` those of a table. Assumes nothing.
pub mod Words
pub mod Results
pub mod Tables
