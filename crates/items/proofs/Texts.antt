-- Texts byte by byte: what begins one of a length, and what goes on with none.
use Rattle.std.proofs.Common.{◌≡◌, ℕ, zero, suc, ◌+◌, ◌-◌, ◌<◌, ◌≤◌, Bool, true, false, ◌&&◌, leb, List, [], ◌∷◌, ◌++◌, length, get_or, take, drop, replicate, Ok, Err, Result, Option, min, ltb, sym, refl, ap, ◌∙◌, subst, inl, inr, arith, length-append}
use Rattle.std.proofs.lemmas.List.{length-replicate, length-take-le, length-take, take_min, get_or-take, take_all, take_more}
use Rattle.std.proofs.lemmas.Bool.{le-leb, leb-true, and_parts, and_from, lt-ltb, le-ltb, ne_eqb, cases_lt, both_ways}
use Rattle.std.specs.Bool.{then_some}
use Rattle.cbor.specs.Prefix.{Begins}
use Rattle.cbor.specs.Utf8.{Range, tail, second, leads, tails, first_in, utf8_after, TextOf}
use Rattle.cbor.proofs.Places.{part_more, start_of, at_first}
use Rattle.cbor.proofs.Utf8.{first_in_parts, Fair, tails_fair}
use Rattle.items.specs.Text.{Runs, part, ByteTold, TailsTold, CharTold, FirstWrong, Blocks}

-- RUNS

pub runs_append : (rs mid end : List Range) (u v : List ℕ) → Runs rs u mid → Runs mid v end → Runs rs (u ++ v) end
unfolding Runs
runs_append rs mid end [] v a b = subst (λ x. Runs x v end) (sym a) b
runs_append [] mid end (x ∷ u) v (h, a) b = (h, runs_append (tails x) mid end u v a b)
runs_append (r ∷ rs) mid end (x ∷ u) v (h, l, a) b = (h, l, runs_append rs mid end u v a b)

pub runs_split : (rs end : List Range) (u v : List ℕ) → Runs rs (u ++ v) end → (mid : List Range) × Runs rs u mid × Runs mid v end
unfolding Runs
runs_split rs end [] v a = (rs, refl, a)
runs_split [] end (x ∷ u) v (h, a) = let (mid, b, c) = runs_split (tails x) end u v a in (mid, (h, b), c)
runs_split (r ∷ rs) end (x ∷ u) v (h, l, a) = let (mid, b, c) = runs_split rs end u v a in (mid, (h, l, b), c)

pub runs_once : (rs a b : List Range) (u : List ℕ) → Runs rs u a → Runs rs u b → a ≡ b
unfolding Runs
runs_once rs a b [] p q = sym p ∙ q
runs_once [] a b (x ∷ u) (h, p) (k, q) = runs_once (tails x) a b u p q
runs_once (r ∷ rs) a b (x ∷ u) (h, l, p) (k, m, q) = runs_once rs a b u p q

-- UTF-8 is what runs to nothing pending
pub utf8_runs : (rs : List Range) (u : List ℕ) → utf8_after rs u ≡ true → Runs rs u []
unfolding Runs utf8_after
utf8_runs [] [] h = refl
utf8_runs (r ∷ rs) [] h = absurd (let z : ◌≡◌ {A = Bool} false true = h in let y : ◌≡◌ {A = ℕ} 0 1 = cc in omega arith)
utf8_runs [] (a ∷ u) h = let p = and_parts (leads a) (utf8_after (tails a) u) h in (p.0, utf8_runs (tails a) u p.1)
utf8_runs (r ∷ rs) (b ∷ u) h =
    let p = and_parts (leb r.0 b && leb b r.1) (utf8_after rs u) h in
    let q = and_parts (leb r.0 b) (leb b r.1) p.0 in
    (leb-true r.0 b q.0, leb-true b r.1 q.1, utf8_runs rs u p.1)

pub runs_utf8 : (rs : List Range) (u : List ℕ) → Runs rs u [] → utf8_after rs u ≡ true
unfolding Runs utf8_after
runs_utf8 [] [] h = refl
runs_utf8 (r ∷ rs) [] h = absurd (let z : suc (length rs) ≡ 0 = ap length h in omega arith)
runs_utf8 [] (a ∷ u) (h, p) = and_from (leads a) (utf8_after (tails a) u) h (runs_utf8 (tails a) u p)
runs_utf8 (r ∷ rs) (b ∷ u) (h, l, p) = and_from (leb r.0 b && leb b r.1) (utf8_after rs u) (and_from (leb r.0 b) (leb b r.1) (le-leb r.0 b h) (le-leb b r.1 l)) (runs_utf8 rs u p)

-- WHAT BEGINS A TEXT

-- what is pending after a run has bytes
runs_fair : (rs end : List Range) (u : List ℕ) → Fair rs → Runs rs u end → Fair end
unfolding Runs
runs_fair rs end [] f h = subst Fair h f
runs_fair [] end (a ∷ u) f (h, p) = runs_fair (tails a) end u (tails_fair a) p
runs_fair (r ∷ rs) end (b ∷ u) f (h, l, p) = runs_fair rs end u f.1 p

-- the lowest bytes that end a character, and then characters of one byte
lowest : List Range → ℕ → List ℕ
lowest [] k = replicate k 0
lowest (r ∷ rs) k = r.0 ∷ lowest rs k

lowest_length : (rs : List Range) (k : ℕ) → length (lowest rs k) ≡ length rs + k
unfolding lowest
lowest_length [] k = length-replicate {A = ℕ} k 0 ∙ (let z : k ≡ 0 + k = omega arith in z)
lowest_length (r ∷ rs) k = ap suc (lowest_length rs k) ∙ (let z : suc (length rs + k) ≡ suc (length rs) + k = omega arith in z)

zeros_run : (k : ℕ) → Runs [] (replicate k 0) []
unfolding Runs
zeros_run zero = refl
zeros_run (suc k) = (refl, zeros_run k)

lowest_runs : (rs : List Range) (k : ℕ) → Fair rs → Runs rs (lowest rs k) []
unfolding Runs lowest
lowest_runs [] k f = zeros_run k
lowest_runs (r ∷ rs) k f = (omega arith, f.0, lowest_runs rs k f.1)

pub runs_begin : (n : ℕ) (q : List ℕ) (rs : List Range) → Runs [] q rs → length q + length rs ≤ n → Begins (TextOf n) q
runs_begin n q rs h l =
    let k = n - (length q + length rs) in
    let r = lowest_runs rs k (runs_fair [] rs q tt h) in
    (lowest rs k, (length-append q (lowest rs k) ∙ (let z = lowest_length rs k in omega arith), runs_utf8 [] (q ++ lowest rs k) (runs_append [] rs [] q (lowest rs k) h r)))

-- a run to nothing pending has at least as many bytes as were pending
runs_long : (rs : List Range) (u : List ℕ) → Runs rs u [] → length rs ≤ length u
unfolding Runs
runs_long [] u h = omega arith
runs_long (r ∷ rs) [] h = absurd (let z : suc (length rs) ≡ 0 = ap length h in omega arith)
runs_long (r ∷ rs) (b ∷ u) (h, l, p) = (let z = runs_long rs u p in omega arith)

pub begin_runs : (n : ℕ) (q : List ℕ) → Begins (TextOf n) q → (rs : List Range) × Runs [] q rs × (length q + length rs ≤ n)
begin_runs n q (rest, (l, t)) =
    let (rs, a, b) = runs_split [] [] q rest (utf8_runs [] (q ++ rest) t) in
    (rs, a, (let z = runs_long rs rest b in let y = length-append q rest in omega arith))

-- no text of a length goes on with a byte
next_blocked : (n b : ℕ) (rs end : List Range) → Runs rs (b ∷ []) end → Blocks n rs b → suc (length end) ≤ n → ⊥
unfolding Runs
next_blocked n b [] end (h, p) bad l = bad (and_from (leads b) (leb (suc (length (tails b))) n) h (le-leb (suc (length (tails b))) n (let z = ap length p in omega arith)))
next_blocked n b (r ∷ rs) end (h, o, p) bad l = bad h o

pub blocked : (n : ℕ) (q : List ℕ) (b : ℕ) (rs : List Range) → Runs [] q rs → Blocks (n - length q) rs b → Begins (TextOf n) (q ++ b ∷ []) → ⊥
blocked n q b rs h bad g =
    let (end, a, m) = begin_runs n (q ++ b ∷ []) g in
    let (mid, c, d) = runs_split [] end q (b ∷ []) a in
    let e : mid ≡ rs = runs_once [] mid rs q c h in
    let y = length-append q (b ∷ []) in
    next_blocked (n - length q) b rs end (subst (λ x. Runs x (b ∷ []) end) e d) bad (omega arith)

-- AT PLACES

part_runs : (bs : List ℕ) (at mid end : ℕ) (rs ms es : List Range) → at ≤ mid → mid ≤ end → Runs rs (part bs at mid) ms → Runs ms (part bs mid end) es → Runs rs (part bs at end) es
part_runs bs at mid end rs ms es h k a b = subst (λ w. Runs rs w es) (sym (part_more bs at mid end h k)) (runs_append rs ms es (part bs at mid) (part bs mid end) a b)

pub part_one : (bs : List ℕ) (at : ℕ) → at < length bs → part bs at (at + 1) ≡ get_or bs at 0 ∷ []
part_one bs at h = ap (λ k. take k (drop at bs)) (let z : at + 1 - at ≡ 1 = omega arith in z) ∙ ap (take 1) (at_first bs at h)

pub part_none : (bs : List ℕ) (at : ℕ) → part bs at at ≡ []
part_none bs at = ap (λ k. take k (drop at bs)) (let z : at - at ≡ 0 = omega arith in z)

pub stays : (bs : List ℕ) (at : ℕ) (rs : List Range) → Runs rs (part bs at at) rs
unfolding Runs
stays bs at rs = subst (λ w. Runs rs w rs) (sym (part_none bs at)) refl

-- THE BYTES AFTER A CHARACTER'S FIRST

-- one range, and then each byte from 128 to 191
abbrev pub Follows : Range → List Range → Type 0
Follows r [] = Unit {0}
Follows r (q ∷ rs) = (q ≡ r) × Follows tail rs

pub tails_follow : (a : ℕ) → Follows (second a) (tails a)
tails_follow a = elim (cases_lt a 128) [
  | inl h ↦ rw (lt-ltb a 128 h) tt
  | inr h ↦ elim (cases_lt a 224) [
    | inl l ↦ rw (le-ltb a 128 h, lt-ltb a 224 l, ne_eqb a 224 (omega arith), ne_eqb a 237 (omega arith), ne_eqb a 240 (omega arith), ne_eqb a 244 (omega arith)) (refl, tt)
    | inr l ↦ elim (cases_lt a 240) [ inl k ↦ rw (le-ltb a 128 h, le-ltb a 224 l, lt-ltb a 240 k) (refl, (refl, tt)) | inr k ↦ rw (le-ltb a 128 h, le-ltb a 224 l, le-ltb a 240 k) (refl, (refl, (refl, tt))) ]
  ]
]

byte_runs : (r : Range) (rs : List Range) (bs : List ℕ) (at end : ℕ) → ByteTold r bs at (Ok end) → Runs (r ∷ rs) (part bs at end) rs
unfolding Runs
byte_runs r rs bs at end (e, (l, h, k)) = subst (λ n. Runs (r ∷ rs) (part bs at n) rs) (sym e) (subst (λ w. Runs (r ∷ rs) w rs) (sym (part_one bs at l)) (h, k, refl))

-- a byte in its range, and then those after it
pub tails_next : (r : Range) (rs : List Range) (bs : List ℕ) (at mid : ℕ) (t : Result ℕ ℕ) → ByteTold r bs at (Ok mid) → TailsTold rs bs mid t → TailsTold (r ∷ rs) bs at t
tails_next r rs bs at mid (Ok end) b (e, l, p) = (omega arith, l, part_runs bs at mid end (r ∷ rs) rs [] (omega arith) (omega arith) (byte_runs r rs bs at mid b) p)
tails_next r rs bs at mid (Err p) b ((h, k), (s, later, q, e, f)) =
    ((omega arith, k), (s, later, part_runs bs at mid p (r ∷ rs) rs (s ∷ later) (omega arith) h (byte_runs r rs bs at mid b) q, omega arith, f))

-- or none in it
pub tails_stop : (r : Range) (rs : List Range) (bs : List ℕ) (at p : ℕ) → at ≤ length bs → ByteTold r bs at (Err p) → TailsTold (r ∷ rs) bs at (Err p)
tails_stop r rs bs at p l (e, f) =
    subst (λ n. TailsTold (r ∷ rs) bs at (Err n)) (sym e) ((omega arith, l), (r, rs, stays bs at (r ∷ rs), omega arith, f))

pub tails_last : (r : Range) (bs : List ℕ) (at : ℕ) (t : Result ℕ ℕ) → at ≤ length bs → ByteTold r bs at t → TailsTold (r ∷ []) bs at t
tails_last r bs at (Ok end) l b = tails_next r [] bs at end (Ok end) b (omega arith, (omega arith), stays bs end [])
tails_last r bs at (Err p) l b = tails_stop r [] bs at p l b

pub tails_none : (a : ℕ) (bs : List ℕ) (at : ℕ) → a < 128 → at ≤ length bs → TailsTold (tails a) bs at (Ok at)
tails_none a bs at h l = rw (lt-ltb a 128 h) (omega arith, l, stays bs at [])

-- CHARACTERS

-- bytes below 128, each a character
plain_runs : (u : List ℕ) (n : ℕ) → n ≤ length u → ((k : ℕ) → k < n → get_or u k 0 < 128) → Runs [] (take n u) []
unfolding Runs
plain_runs u zero l h = refl
plain_runs [] (suc n) l h = absurd (omega arith)
plain_runs (b ∷ u) (suc n) l h =
    let z : b < 128 = h 0 (omega arith) in
    rw (lt-ltb b 128 z) (refl, plain_runs u n (omega arith) (λ k l. h (suc k) (omega arith)))

pub plain_part : (bs : List ℕ) (from end size n : ℕ) → end ≡ from + n → n ≤ length (take size (drop from bs)) → ((k : ℕ) → k < n → get_or (take size (drop from bs)) k 0 < 128) → Runs [] (part bs from end) []
plain_part bs from end size n e l h =
    let z : end - from ≡ n = omega arith in
    let s : (n ≤ size) × (n ≤ length (drop from bs)) = omega (arith, length-take {A = ℕ}) in
    rw z (plain_runs (drop from bs) n s.1 (λ k g. subst (λ b. b < 128) (get_or-take size (drop from bs) k 0 (omega arith)) (h k g)))

module _ (left : ℕ) (bs : List ℕ) (at : ℕ) (inside : at < length bs) where
  -- none begins there
  pub char_none : first_in left (get_or bs at 0) ≡ false → CharTold left bs at (Err at)
  char_none h =
      let z : at - at ≡ 0 = omega arith in
      ((omega arith, omega arith), ([], stays bs at [], omega arith, (λ l. omega arith), λ l g. both_ways (first_in left (get_or bs at 0)) h (subst (λ n. first_in n (get_or bs at 0) ≡ true) (let y : left - (at - at) ≡ left = omega arith in y) g)))

  first_runs : leads (get_or bs at 0) ≡ true → Runs [] (part bs at (at + 1)) (tails (get_or bs at 0))
  unfolding Runs
  first_runs h = subst (λ w. Runs [] w (tails (get_or bs at 0))) (sym (part_one bs at inside)) (h, refl)

  pub char_tails : (t : Result ℕ ℕ) → first_in left (get_or bs at 0) ≡ true → TailsTold (tails (get_or bs at 0)) bs (at + 1) t → CharTold left bs at t
  char_tails (Ok end) h (e, l, p) =
      let (a, r) = first_in_parts left (get_or bs at 0) h in
      (omega arith, l, omega arith, part_runs bs at (at + 1) end [] (tails (get_or bs at 0)) [] (omega arith) (omega arith) (first_runs a) p)
  char_tails (Err p) h ((k, l), (r, later, q, e, f)) =
      let (a, m) = first_in_parts left (get_or bs at 0) h in
      ((omega arith, l), (r ∷ later, part_runs bs at (at + 1) p [] (tails (get_or bs at 0)) (r ∷ later) (omega arith) k (first_runs a) q, omega arith, (λ o. omega arith), f))

-- THE WHOLE TEXT

module _ (n : ℕ) (bs : List ℕ) (at : ℕ) (before : Runs [] (part bs 0 at) []) where
  -- one character more, and then bytes below 128
  pub chars_more : (next end : ℕ) → at ≤ next → next ≤ end → Runs [] (part bs at next) [] → Runs [] (part bs next end) [] → Runs [] (part bs 0 end) []
  chars_more next end h k a b = part_runs bs 0 next end [] [] [] (omega arith) k (part_runs bs 0 at next [] [] [] (omega arith) h before a) b

  -- no character goes on
  char_wrong : (p : ℕ) → at < n → p < length bs → CharTold (n - at) bs at (Err p) → (p < n) × (p < length bs) × Begins (TextOf n) (take p bs) × (Begins (TextOf n) (take (suc p) bs) → ⊥)
  char_wrong p h l ((k, m), (rs, q, e, o, f)) =
      let z = o (omega arith) in
      let r : Runs [] (take p bs) rs = subst (λ w. Runs [] w rs) (start_of p bs) (part_runs bs 0 at p [] [] rs (omega arith) k before q) in
      let y = length-take-le p bs m in
      let w : n - at - (p - at) ≡ n - length (take p bs) = omega arith in
      let t : take (suc p) bs ≡ take p bs ++ get_or bs p 0 ∷ [] = ap (λ j. take j bs) (let x : suc p ≡ p + 1 = omega arith in x) ∙ take_more bs p 0 l in
      (omega arith, l, runs_begin n (take p bs) rs r (omega arith), λ g. blocked n (take p bs) (get_or bs p 0) rs r (subst (λ j. Blocks j rs (get_or bs p 0)) w (f l)) (subst (Begins (TextOf n)) t g))

  -- all of the bytes begin a text
  char_cut : (p : ℕ) → at < n → length bs ≤ p → CharTold (n - at) bs at (Err p) → Begins (TextOf n) (take n bs)
  char_cut p h l ((k, m), (rs, q, e, o, f)) =
      let r : Runs [] (take p bs) rs = subst (λ w. Runs [] w rs) (start_of p bs) (part_runs bs 0 at p [] [] rs (omega arith) k before q) in
      let y = length-take-le p bs m in
      let t : take p bs ≡ take n bs = take_all p bs l ∙ sym (take_all n bs (omega arith)) in
      subst (Begins (TextOf n)) t (runs_begin n (take p bs) rs r (omega arith))

  pub char_stop : (p : ℕ) (r : Option ℕ) → at < n → CharTold (n - at) bs at (Err p) → r ≡ then_some (ltb p (length bs)) p → FirstWrong n bs r
  char_stop p r h c e = elim (cases_lt p (length bs)) [
    | inl l ↦ rw (e, lt-ltb p (length bs) l) (char_wrong p h l c)
    | inr l ↦ rw (e, le-ltb p (length bs) l) (char_cut p h l c)
  ]

  pub chars_whole : at ≡ min n (length bs) → Begins (TextOf n) (take n bs)
  chars_whole e =
      let t : take at bs ≡ take n bs = ap (λ j. take j bs) e ∙ take_min n bs in
      runs_begin n (take n bs) [] (subst (λ w. Runs [] w []) (start_of at bs ∙ t) before) (omega (arith, length-take n bs))
