-- A grammar over tokens: a list of pending sorts, of which the first says which token may come, and the token what is pending in its place.
use Rattle.std.specs.Prelude.{◌≡◌, ℕ, zero, suc, List, [], ◌∷◌, ◌++◌}
use Rattle.sequence.specs.Token.{Token, num, str, spell, Shape, Suits}

pub record Grammar (S : Type 0) : Type 0 where
  pub shape : S → Shape
  pub after : S → ℕ → List S

-- so many of a sort
unfoldable pub many : {S : Type 0} → ℕ → S → List S
many zero s = []
many (suc n) s = s ∷ many n s

abbrev pub next : {S : Type 0} → Grammar S → S → Token → List S
next G s (num n) = G.after s n
next G s (str bs) = []

-- tokens take what is pending to what is then pending
unfoldable pub Takes : {S : Type 0} → Grammar S → List S → List Token → List S → Type 0
Takes G ss [] rest = ss ≡ rest
Takes G [] (t ∷ ts) rest = ⊥
Takes G (s ∷ ss) (t ∷ ts) rest = Suits (G.shape s) t × Takes G (next G s t ++ ss) ts rest

-- the bytes of tokens that complete what is pending
abbrev pub Completes : {S : Type 0} → Grammar S → List S → List Token → List ℕ → Type 0
Completes G ss ts w = (w ≡ spell ts) × Takes G ss ts []

-- every sort can be completed
abbrev pub Completable : {S : Type 0} → Grammar S → Type 0
Completable {S} G = (s : S) → (ts : List Token) × ((ss : List S) → Takes G (s ∷ ss) ts ss)
