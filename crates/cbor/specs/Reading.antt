-- What reading a head tells.
use Rattle.std.specs.Prelude.{◌≡◌, ℕ, ◌+◌, ◌<◌, ◌≤◌, ◌⊎◌, List, length, Some, None, Ok, Err, Option, Result}
use Rattle.cbor.specs.declared.reading.Head.{Head}
use Rattle.cbor.specs.declared.reading.Stop.{Stop}
use Rattle.cbor.specs.declared.reading.Form.{Form}
use Rattle.cbor.specs.Encoding.{head}
use Rattle.cbor.specs.Prefix.{Any, StopsAt, StandsAt}

-- the heads of one major type, with their arguments
abbrev pub HeadOf : ℕ → ℕ → List ℕ → Type 0
HeadOf m n w = (w ≡ head m n) × (n < 18446744073709551616)

abbrev pub Stopped : (List ℕ → Type 0) → List ℕ → ℕ → Stop → Type 0
Stopped W bs at s = StopsAt W bs at s.place s.least

-- the head that stands at a place, or where there is none
abbrev pub HeadAt : ℕ → List ℕ → ℕ → Result Head Stop → Type 0
HeadAt m bs at (Ok h) = StandsAt (HeadOf m h.argument) bs at h.next × (at < h.next)
HeadAt m bs at (Err s) = Stopped (Any (HeadOf m)) bs at s

-- how an argument stands after a low part of 24 to 27: in so many bytes, of which the first few show by at least so much that the form is the shortest
abbrev pub IsForm : ℕ → Form → Type 0
IsForm low f =
    ((low ≡ 24) × (f.front ≡ 1) × (f.width ≡ 1) × (f.least ≡ 24))
    ⊎ (((low ≡ 25) × (f.front ≡ 1) × (f.width ≡ 2) × (f.least ≡ 1))
    ⊎ (((low ≡ 26) × (f.front ≡ 2) × (f.width ≡ 4) × (f.least ≡ 1)) ⊎ ((low ≡ 27) × (f.front ≡ 4) × (f.width ≡ 8) × (f.least ≡ 1))))

abbrev pub FormOf : ℕ → Option Form → Type 0
FormOf low (Some f) = IsForm low f
FormOf low None = (24 ≤ low → 27 < low)

abbrev pub IsWidth : ℕ → Type 0
IsWidth w = (w ≡ 1) ⊎ ((w ≡ 2) ⊎ ((w ≡ 4) ⊎ (w ≡ 8)))

-- where so many bytes end
abbrev pub BytesEnd : ℕ → List ℕ → ℕ → Option ℕ → Type 0
BytesEnd n bs at (Some end) = (end ≡ at + n) × (end ≤ length bs)
BytesEnd n bs at None = length bs < at + n
