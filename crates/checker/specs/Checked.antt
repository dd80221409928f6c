-- What checking tells.
use Rattle.std.specs.Prelude.{ℕ, suc, ◌<◌, ◌≤◌, List, ◌++◌, length, take, Ok, Err, Result, codes, decimal}
use Rattle.prefixes.specs.Verdict.{IsItem, IsPrefix}
use Rattle.checker.specs.declared.Verdict.{Verdict}
use Rattle.checker.specs.declared.Verdict.TheVariants.{Complete, Prefix, Wrong}
use Rattle.checker.specs.declared.NotChecked.{NotChecked}
use Rattle.checker.specs.declared.NotChecked.TheVariants.{TooLittleLent, TooManyBytes}

-- the bytes of a valid item; what some begin with, and none has; or up to this byte what some begin with, and with it none
abbrev pub Right : List ℕ → Verdict → Type 0
Right bs Complete = IsItem bs
Right bs Prefix = IsPrefix bs × (IsItem bs → ⊥)
Right bs (Wrong p) = (p < length bs) × IsPrefix (take p bs) × (IsPrefix (take (suc p) bs) → ⊥)

-- told just where enough is lent, and there are fewer than 2^60 bytes
abbrev pub Checked : List ℕ → List ℕ → Result Verdict NotChecked → Type 0
Checked bs lent (Ok v) = (64 ≤ length lent) × (length bs < 1152921504606846976) × Right bs v
Checked bs lent (Err TooLittleLent) = length lent < 64
Checked bs lent (Err TooManyBytes) = 1152921504606846976 ≤ length bs

-- a verdict in words, with the place of the first wrong byte in decimal
abbrev pub line : Verdict → List ℕ
line Complete = codes "complete"
line Prefix = codes "prefix"
line (Wrong p) = codes "wrong at " ++ decimal p

-- why nothing is told, in words
abbrev pub reason : NotChecked → List ℕ
reason TooLittleLent = codes "fewer than " ++ decimal 64 ++ codes " numbers are lent"
reason TooManyBytes = decimal 1152921504606846976 ++ codes " bytes or more"
