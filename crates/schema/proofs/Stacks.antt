-- The stack of what is pending.
use Rattle.std.proofs.Common.{◌≡◌, ℕ, zero, suc, ◌+◌, ◌-◌, ◌<◌, ◌≤◌, List, [], ◌∷◌, ◌++◌, length, get_or, set, sym, refl, ap, ◌∙◌, add-one, arith}
use Rattle.std.proofs.lemmas.List.{get_or-set_same, get_or-set_other}
use Rattle.sequence.specs.Grammar.{many}
use Rattle.schema.specs.Grammar.{Sort}
use Rattle.schema.specs.Stacks.{number_sort, in_run, pending}

-- runs above the depth don't matter
pending_set : (runs : List (List ℕ)) (i : ℕ) (run : List ℕ) (k : ℕ) → k ≤ i → pending (set runs i run) k ≡ pending runs k
unfolding pending
pending_set runs i run zero h = refl
pending_set runs i run (suc k) h =
    let a : get_or (set runs i run) k [] ≡ get_or runs k [] = get_or-set_other runs i k run [] (λ e. omega arith) in
    (λ j. in_run (a j) ++ pending_set runs i run k (omega arith) j)

pending_top : (runs : List (List ℕ)) (k : ℕ) → pending runs (k + 1) ≡ in_run (get_or runs k []) ++ pending runs k
unfolding pending
pending_top runs k = ap (pending runs) (add-one k)

pub pushed : (runs : List (List ℕ)) (k s n : ℕ) → k < length runs → pending (set runs k (s ∷ n ∷ [])) (k + 1) ≡ many n (number_sort s) ++ pending runs k
pushed runs k s n h =
    let run = s ∷ n ∷ [] in
    pending_top (set runs k run) k ∙ (λ j. in_run (get_or-set_same runs k run [] h j) ++ pending_set runs k run k (omega arith) j)

many_one : (n : ℕ) (s : Sort) → 0 < n → many n s ≡ s ∷ many (n - 1) s
unfolding many
many_one zero s h = absurd (omega arith)
many_one (suc n) s h = ap (λ k. s ∷ many k s) (let z : n ≡ suc n - 1 = omega arith in z)

-- the top run, by how many there are
pub taken_top : (runs : List (List ℕ)) (d k : ℕ) → 1 ≤ d → k ≡ d - 1 → k < length runs → let s = get_or (get_or runs k []) 0 0 in let n = get_or (get_or runs k []) 1 0 in 0 < n → pending runs d ≡ number_sort s ∷ pending (set runs k (s ∷ (n - 1) ∷ [])) d
taken_top runs d k some below h p =
    let s = get_or (get_or runs k []) 0 0 in
    let n = get_or (get_or runs k []) 1 0 in
    let top : d ≡ k + 1 = omega arith in
    let new = set runs k (s ∷ (n - 1) ∷ []) in
    ap (pending runs) top ∙ pending_top runs k ∙ ap (λ ss. ss ++ pending runs k) (many_one n (number_sort s) p) ∙ ap (λ ss. number_sort s ∷ ss) (sym (ap (pending new) top ∙ pushed runs k s (n - 1) h))

pub emptied_top : (runs : List (List ℕ)) (d k : ℕ) → 1 ≤ d → k ≡ d - 1 → get_or (get_or runs k []) 1 0 ≤ 0 → pending runs k ≡ pending runs d
unfolding many
emptied_top runs d k some below e =
    let top : k + 1 ≡ d = omega arith in
    let none : 0 ≡ get_or (get_or runs k []) 1 0 = omega arith in
    ap (λ n. many n (number_sort (get_or (get_or runs k []) 0 0)) ++ pending runs k) none ∙ sym (pending_top runs k) ∙ ap (pending runs) top
