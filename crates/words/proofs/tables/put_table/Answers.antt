-- `tables::put_table` meets its contract: the diameters are put after the count, and the areas after both. Assumes nothing.
use Rattle.std.proofs.Common.{refl, arith, rules}
use Rattle.words.proofs.Copies.{first_word, put_after}
use Rattle.words.proofs.tables.put_table.Goals as goal

pub returns : goal.returns
returns c =
    let words = c.args.words.now in
    let count = first_word words c.args.table.now.count (omega (arith, c.requires)) in
    let diameters = put_after {count = 12} count c.copy_from_slice.ensures.after (search rules) refl in
    let all = put_after {count = 12} diameters c.copy_from_slice-2.ensures.after (search rules) refl in
    all.put
