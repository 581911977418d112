-- No refusal has the number 0. Assumes nothing.
use Rattle.std.proofs.Common.{◌≡◌, arith}
use Rattle.allocation.specs.Answers.{number_of as limits_number}
use Rattle.allocation.specs.declared.LimitsRefusal.{LimitsRefusal}
use Rattle.allocation.specs.declared.LimitsRefusal.TheVariants.{RowCount as NoRowCount, TooFewLimits, LimitTooLarge}
use Rattle.bolttable.specs.Loading.{number_of as table_number}
use Rattle.bolttable.specs.declared.TableRefusal.{TableRefusal}
use Rattle.bolttable.specs.declared.TableRefusal.TheVariants.{OutOfRange, DiametersDontRise, AreaTooLarge}
use Rattle.jointfile.specs.Answers.{read_refusal, write_refusal}
use Rattle.jointfile.specs.declared.ReadRefusal.{ReadRefusal}
use Rattle.jointfile.specs.declared.ReadRefusal.TheVariants.{BytesEnd, WrongForm, RowCount as UnreadRowCount}
use Rattle.jointfile.specs.declared.WriteRefusal.{WriteRefusal}
use Rattle.jointfile.specs.declared.WriteRefusal.TheVariants.{RowCount as UnwrittenRowCount, NoRoom, SpareLever}
use Rattle.outcome.specs.Outcome.{number_of as face_number_of}
use Rattle.outcome.specs.declared.FaceRefusal.{FaceRefusal}
use Rattle.outcome.specs.declared.FaceRefusal.TheVariants.{OutOfRange as FieldOutOfRange, LeversDontFall, RowsTooClose, RowOutOfPlace, TooTight, NoCap}

pub limits_some : (refusal : LimitsRefusal) → limits_number refusal ≡ 0 → ⊥
limits_some NoRowCount none = omega (arith, none)
limits_some TooFewLimits none = omega (arith, none)
limits_some LimitTooLarge none = omega (arith, none)

pub face_some : (refusal : FaceRefusal) → face_number_of refusal ≡ 0 → ⊥
face_some (FieldOutOfRange field) none = omega (arith, none)
face_some LeversDontFall none = omega (arith, none)
face_some RowsTooClose none = omega (arith, none)
face_some RowOutOfPlace none = omega (arith, none)
face_some TooTight none = omega (arith, none)
face_some NoCap none = omega (arith, none)

pub table_some : (refusal : TableRefusal) → table_number refusal ≡ 0 → ⊥
table_some OutOfRange none = omega (arith, none)
table_some DiametersDontRise none = omega (arith, none)
table_some AreaTooLarge none = omega (arith, none)

pub read_some : (refusal : ReadRefusal) → read_refusal refusal ≡ 0 → ⊥
read_some BytesEnd none = omega (arith, none)
read_some WrongForm none = omega (arith, none)
read_some UnreadRowCount none = omega (arith, none)

pub write_some : (refusal : WriteRefusal) → write_refusal refusal ≡ 0 → ⊥
write_some UnwrittenRowCount none = omega (arith, none)
write_some NoRoom none = omega (arith, none)
write_some SpareLever none = omega (arith, none)
