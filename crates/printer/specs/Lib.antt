-- `Sheet` states rules 12.1 and 12.3 to 12.6: what a sheet is, as a definition on bytes. `Answers` states rule 13.2 of the sheet, and
-- serves the code: what each answer means, and how long a sheet can be. Assumes nothing.
pub mod Sheet
pub mod Answers
