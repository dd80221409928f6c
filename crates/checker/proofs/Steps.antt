-- One word after another, at places.
use Rattle.std.proofs.Common.{◌≡◌, ℕ, slice_range, ◌-◌, ◌<◌, ◌≤◌, true, List, length, get_or, take, drop, Some, None, Ok, Err, Option, Result, IfOk, Fits, w8, sym, ap, arith}
use Rattle.std.specs.Option.{ok_or}
use Rattle.std.proofs.lemmas.List.{length-drop, take_all, drop-drop}
use Rattle.std.proofs.lemmas.Bool.{le-leb, lt-leb}
use Rattle.cbor.specs.Encoding.{all_bytes}
use Rattle.cbor.specs.Reading.{BytesEnd}
use Rattle.cbor.proofs.Numbers.{bytes_typed}
use Rattle.cbor.proofs.Places.{part_more, part_length}
use Rattle.prefixes.specs.Words.{last_up}
use Rattle.prefixes.specs.Walks.{Told, done, wrong, on_told, carry, retold, walk_bytes}
use Rattle.checker.specs.declared.Stop.{Stop}
use Rattle.checker.specs.declared.Stop.TheVariants.{Cut, Wrong}
use Rattle.reach.specs.Measured.{Ended}
use Rattle.checker.specs.Ends.{Stops, Ends}

pub typed : (bs : List ℕ) → ((i : ℕ) → Fits w8 (get_or bs i 0)) → all_bytes bs ≡ true
typed bs h = bytes_typed bs (λ i. omega (arith, h i))

pub rest_is : (bs : List ℕ) (at : ℕ) → slice_range bs at (length bs) ≡ drop at bs
rest_is bs at = take_all (length bs - at) (drop at bs) (rw (length-drop at bs) (omega arith))

abbrev wrong_of : (I : Type 0) → ℕ → Told I
wrong_of I p = wrong p

pub wrong_is : {I : Type 0} (a b : ℕ) → a ≡ b → wrong_of I a ≡ wrong_of I b
wrong_is {I} a b e = ap (λ p. wrong_of I p) e

-- a word, and what is told after it
pub then_ends : {I J K : Type 0} (bs : List ℕ) (at mid : ℕ) (i : I) (t : Told I) (f : I → List ℕ → List ℕ → Told J) (g : I → List ℕ → J → K) → Ended bs at mid i t → (r : Result ℕ Stop) → Ends bs mid r (f i (take (mid - at) (drop at bs)) (drop mid bs)) → Ends bs at r (on_told t (λ i u rest. carry (g i u) u (f i u rest)))
then_ends bs at mid i t f g (a, b, e) (Ok end) (j, (c, d, h)) =
    (g i (take (mid - at) (drop at bs)) j, (omega arith, d, rw (e, h) (ap (λ w. done (g i (take (mid - at) (drop at bs)) j) w (drop end bs)) (sym (part_more bs at mid end a c)))))
then_ends bs at mid i t f g (a, b, e) (Err Cut) h = rw (e, h)
then_ends bs at mid i t f g (a, b, e) (Err (Wrong p)) (c, h) = (omega arith, rw (e, h) (wrong_is _ _ (rw (part_length bs at mid a b) (omega arith))))

-- or a stop before one
pub stop_ends : {I J : Type 0} (at : ℕ) (t : Told I) (f : I → List ℕ → List ℕ → Told J) (s : Stop) → Stops at s t → Stops at s (on_told t f)
stop_ends at t f Cut h = rw h
stop_ends at t f (Wrong p) (a, h) = (a, rw h)

pub retold_ends : {I J : Type 0} (f : I → J) (bs : List ℕ) (at : ℕ) (t : Told I) (r : Result ℕ Stop) → Ends bs at r t → Ends bs at r (retold f t)
retold_ends f bs at t (Ok end) (i, (a, b, e)) = (f i, (a, b, rw e))
retold_ends f bs at t (Err Cut) e = rw e
retold_ends f bs at t (Err (Wrong p)) (a, e) = (a, rw e)

-- so many bytes
pub bytes_ends : (bs : List ℕ) (at n : ℕ) (r : Option ℕ) → at ≤ length bs → BytesEnd n bs at r → Ends bs at (ok_or r Cut) (walk_bytes n (drop at bs))
bytes_ends bs at n (Some end) k (e, h) =
    let l : n ≤ length (drop at bs) = rw (length-drop at bs) (omega arith) in
    let x : end - at ≡ n = omega arith in
    (last_up (take n (drop at bs)), (omega arith, h, rw (le-leb n (length (drop at bs)) l, x, drop-drop n at bs, e)))
bytes_ends bs at n None k h =
    let l : length (drop at bs) < n = rw (length-drop at bs) (omega arith) in
    rw (lt-leb n (length (drop at bs)) l)

pub ends_within : {I : Type 0} (bs : List ℕ) (at : ℕ) (r : Result ℕ Stop) (t : Told I) → Ends bs at r t → IfOk r (λ end. (at ≤ end) × (end ≤ length bs))
ends_within bs at (Ok end) t (i, e) = (e.0, e.1)
ends_within bs at (Err s) t e = tt
