-- Parts one after another, at places: what each says gives what the whole says.
use Rattle.std.proofs.Common.{◌≡◌, ℕ, zero, suc, ◌+◌, ◌-◌, ◌<◌, ◌≤◌, Bool, true, false, cond, ltb, List, [], ◌∷◌, ◌++◌, length, get_or, take, drop, Some, None, Option, sym, refl, ap, ◌∙◌, inl, inr, arith}
use Rattle.std.proofs.lemmas.Bool.{lt-ltb, cond_both, cases_lt}
use Rattle.std.specs.Option.{MatchOption}
use Rattle.std.specs.Int.{from_bool}
use Rattle.cbor.proofs.Places.{part_more, at_first}
use Rattle.prefixes.specs.Words.{joined, last_up, reach_of_head}
use Rattle.prefixes.specs.Walks.{Told, done, cut, wrong, on_told, carry, retold, settle, walk_one}
use Rattle.reach.specs.Measured.{DoneSo, NeverDone, Bounds}

-- ONE AFTER ANOTHER

module _ {J K : Type 0} (bs : List ℕ) (at mid : ℕ) where
  pub carry_so : (g : J → K) (u : List ℕ) (end : ℕ) (k : J) (t : Told J) → at ≤ mid → mid ≤ end → u ≡ take (mid - at) (drop at bs) → DoneSo bs mid end k t → DoneSo bs at end (g k) (carry g u t)
  carry_so g u end k (done j v rest) h l p (a, b, c) = (ap g a, (λ i. p i ++ b i) ∙ sym (part_more bs at mid end h l), c)
  carry_so g u end k cut h l p s = tt
  carry_so g u end k (wrong q) h l p s = tt

pub carry_never : {J K : Type 0} (g : J → K) (u : List ℕ) (t : Told J) → NeverDone t → NeverDone (carry g u t)
carry_never g u (done j v rest) s = s
carry_never g u cut s = tt
carry_never g u (wrong q) s = tt

module _ {I J K : Type 0} (bs : List ℕ) (at mid : ℕ) where
  pub then_so : (i : I) (t : Told I) (f : I → List ℕ → List ℕ → Told J) (g : I → List ℕ → J → K) (end : ℕ) (k : J) → at ≤ mid → mid ≤ end → DoneSo bs at mid i t
      → DoneSo bs mid end k (f i (take (mid - at) (drop at bs)) (drop mid bs)) → DoneSo bs at end (g i (take (mid - at) (drop at bs)) k) (on_told t (λ i u rest. carry (g i u) u (f i u rest)))
  then_so i (done j u rest) f g end k h l (a, b, c) s = rw (a, b, c) (carry_so bs at mid (g i (take (mid - at) (drop at bs))) (take (mid - at) (drop at bs)) end k (f i (take (mid - at) (drop at bs)) (drop mid bs)) h l refl s)
  then_so i cut f g end k h l d s = tt
  then_so i (wrong q) f g end k h l d s = tt

  pub then_never : (i : I) (t : Told I) (f : I → List ℕ → List ℕ → Told J) (g : I → List ℕ → J → K) → DoneSo bs at mid i t
      → NeverDone (f i (take (mid - at) (drop at bs)) (drop mid bs)) → NeverDone (on_told t (λ i u rest. carry (g i u) u (f i u rest)))
  then_never i (done j u rest) f g (a, b, c) s = rw (a, b, c) (carry_never (g i (take (mid - at) (drop at bs))) (take (mid - at) (drop at bs)) (f i (take (mid - at) (drop at bs)) (drop mid bs)) s)
  then_never i cut f g d s = tt
  then_never i (wrong q) f g d s = tt

pub stop_never : {I J : Type 0} (t : Told I) (f : I → List ℕ → List ℕ → Told J) → NeverDone t → NeverDone (on_told t f)
stop_never (done i u rest) f s = absurd s
stop_never cut f s = tt
stop_never (wrong q) f s = tt

pub carry_retold : {I J K : Type 0} (f : I → J) (g : J → K) (u : List ℕ) (t : Told I) → carry g u (retold f t) ≡ carry (λ i. g (f i)) u t
carry_retold f g u (done j v rest) = refl
carry_retold f g u cut = refl
carry_retold f g u (wrong q) = refl

pub settle_so : {I : Type 0} (bs : List ℕ) (at end : ℕ) (i : I) (t : Told I) (js : List ℕ) → DoneSo bs at end i t → DoneSo bs at end i (settle t js)
settle_so bs at end i t [] s = s
settle_so bs at end i (done j u rest) (x ∷ js) s = tt
settle_so bs at end i cut (x ∷ js) s = tt
settle_so {I} bs at end i (wrong q) (x ∷ js) s = cond_both (ltb q x) (wrong q) (wrong x) (λ (t : Told I). DoneSo bs at end i t) (λ e. tt) (λ e. tt)

pub settle_never : {I : Type 0} (t : Told I) (js : List ℕ) → NeverDone t → NeverDone (settle t js)
settle_never t [] s = s
settle_never (done j u rest) (x ∷ js) s = tt
settle_never cut (x ∷ js) s = tt
settle_never {I} (wrong q) (x ∷ js) s = cond_both (ltb q x) (wrong q) (wrong x) (λ (t : Told I). NeverDone t) (λ e. tt) (λ e. tt)

-- nothing
pub none_so : {I : Type 0} (bs : List ℕ) (at end : ℕ) (i : I) → end ≡ at → DoneSo bs at end i (done i [] (drop at bs))
none_so bs at end i e = let z : end - at ≡ 0 = omega arith in (refl, rw z, rw e)

-- a reach and then another, and what follows these
pub joined_twice : (a x b y c : ℕ) → joined (joined a x b) (x + y) c ≡ joined a x (joined b y c)
joined_twice a x b y zero = refl
joined_twice a x b y (suc c) = ap suc (let z : x + y + c ≡ x + (y + c) = omega arith in z)

pub joined_within : (at mid end n m : ℕ) → at + n ≤ mid → mid + m ≤ end → at + joined n (mid - at) m ≤ end
joined_within at mid end n zero h l = omega arith
joined_within at mid end n (suc m) h l = omega arith

-- LOOPS

-- so far this is the reach, and what is left gives the whole; what is left may be told of in several ways
pub record Rest (bs : List ℕ) (at : ℕ) (whole : Told ℕ) (mid : ℕ) (X : Type 0) (left : X → Told ℕ) (reach : ℕ) : Type 0 where
  pub within : at + reach ≤ mid
  pub inside : mid ≤ length bs
  pub so : (end m : ℕ) → mid ≤ end → ((x : X) → DoneSo bs mid end m (left x)) → DoneSo bs at end (joined reach (mid - at) m) whole
  pub never : ((x : X) → NeverDone (left x)) → NeverDone whole

joined_none : (m : ℕ) → joined 0 0 m ≡ m
joined_none zero = refl
joined_none (suc m) = let z : suc (0 + m) ≡ suc m = omega arith in z

module _ (bs : List ℕ) (at : ℕ) (whole : Told ℕ) where
  pub rest_start : (X : Type 0) (left : X → Told ℕ) (x : X) → at ≤ length bs → left x ≡ whole → Rest bs at whole at X left 0
  rest_start X left x l e = record {
    within = omega arith;
    inside = l;
    so = λ end m h s. let z : at - at ≡ 0 = omega arith in rw (z, joined_none m, ← e) (s x);
    never = λ s. rw (← e) (s x);
  }

  module _ (mid : ℕ) (X : Type 0) (left : X → Told ℕ) (reach : ℕ) (rest : Rest bs at whole mid X left reach) where
    pub rest_more : (next : ℕ) (Y : Type 0) (later : Y → Told ℕ) (m n : ℕ) → Bounds bs mid next m → n ≡ joined reach (mid - at) m
        → ((end k : ℕ) → next ≤ end → ((y : Y) → DoneSo bs next end k (later y)) → (x : X) → DoneSo bs mid end (joined m (next - mid) k) (left x))
        → (((y : Y) → NeverDone (later y)) → (x : X) → NeverDone (left x))
        → Rest bs at whole next Y later n
    rest_more next Y later m n (a, b) e so never = record {
      within = rw e (joined_within at mid next reach m rest.within a);
      inside = b;
      so = λ end k h s.
          let w = rest.within in
          let z : next - at ≡ (mid - at) + (next - mid) = omega arith in
          rw (e, z, joined_twice reach (mid - at) m (next - mid) k) (rest.so end (joined m (next - mid) k) (omega arith) (so end k h s));
      never = λ s. rest.never (never s);
    }

    pub rest_end : ((x : X) → left x ≡ done 0 [] (drop mid bs)) → Bounds bs at mid reach × DoneSo bs at mid reach whole
    rest_end e = ((rest.within, rest.inside), rest.so mid 0 (omega arith) (λ x. rw (e x) (none_so bs mid mid 0 refl)))

-- BYTES

-- one byte, whatever the test
pub one_so : (bs : List ℕ) (at : ℕ) (test : ℕ → Bool) → at < length bs → DoneSo bs at (at + 1) (get_or bs at 0) (walk_one test (drop at bs))
unfolding walk_one
one_so bs at test h =
    let z : at + 1 - at ≡ 1 = omega arith in
    rw (at_first bs at h) (cond_both (test (get_or bs at 0)) (done (get_or bs at 0) (get_or bs at 0 ∷ []) (drop (at + 1) bs)) (wrong 0) (λ t. DoneSo bs at (at + 1) (get_or bs at 0) t) (λ e. (refl, rw (z, at_first bs at h), refl)) (λ e. tt))

-- a test as a number
pub byte_is : (t : Bool) → from_bool t ≡ cond t 1 0
byte_is true = refl
byte_is false = refl

pub byte_within : (t : Bool) → from_bool t ≤ 1
byte_within true = omega arith
byte_within false = omega arith

-- the last byte that isn't 255

abbrev pub LastOther : List ℕ → Option ℕ → Type 0
LastOther u (Some i) = (i < length u) × (get_or u i 0 ≡ 255 → ⊥) × ((k : ℕ) → i < k → k < length u → get_or u k 0 ≡ 255)
LastOther u None = (k : ℕ) → k < length u → get_or u k 0 ≡ 255

none_up : (u : List ℕ) → ((k : ℕ) → k < length u → get_or u k 0 ≡ 255) → last_up u ≡ 0
unfolding last_up
none_up [] h = refl
none_up (b ∷ u) h = let z : b ≡ 255 = h 0 (omega arith) in rw (z, none_up u (λ k l. h (suc k) (omega arith)))

up_is : (u : List ℕ) (i : ℕ) → ((k : ℕ) → get_or u k 0 < 256) → LastOther u (Some i) → last_up u ≡ i + 1
unfolding last_up
up_is [] i a (l, n, h) = absurd (omega arith)
up_is (b ∷ u) zero a (l, n, h) =
    let z : b < 255 = elim (cases_lt b 255) [ inl l ↦ l | inr l ↦ absurd (n (omega (arith, a 0))) ] in
    rw (lt-ltb b 255 z, none_up u (λ k l. h (suc k) (omega arith) (omega arith)))
up_is (b ∷ u) (suc i) a (l, n, h) =
    let e : last_up u ≡ suc i = up_is u i (λ k. a (suc k)) (omega arith, n, λ k l m. h (suc k) (omega arith) (omega arith)) ∙ omega arith in
    rw e (omega arith)

pub last_up_is : (u : List ℕ) (r : Option ℕ) (n : ℕ) → ((k : ℕ) → get_or u k 0 < 256) → LastOther u r → MatchOption r (n ≡ 0) (λ i. n ≡ i + 1) → (n ≡ last_up u) × (n ≤ length u)
last_up_is u (Some i) n a h e = (e ∙ sym (up_is u i a h), omega arith)
last_up_is u None n a h e = (e ∙ sym (none_up u h), omega arith)

pub no_head_up : (u : List ℕ) → length u ≡ 0 → reach_of_head u ≡ 0
unfolding reach_of_head
no_head_up [] e = refl
no_head_up (b ∷ u) e = absurd (omega arith)

pub head_up : (u : List ℕ) (b : ℕ) (v : List ℕ) (f m n : ℕ) → u ≡ b ∷ v → f ≡ from_bool (ltb b 248) → (m ≡ last_up v) × (m ≤ length v) → n ≡ joined f 1 m → (n ≡ reach_of_head u) × (n ≤ length u)
unfolding reach_of_head
head_up u b v f m n e g (h, l) k = (rw (k, e, ← h) (ap (λ x. joined x 1 m) (g ∙ byte_is (ltb b 248))), rw (k, e) (within m l))
  where
    within : (m : ℕ) → m ≤ length v → joined f 1 m ≤ length (b ∷ v)
    within zero l = omega (arith, byte_within (ltb b 248))
    within (suc m) l = omega arith
