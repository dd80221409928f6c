-- What is told of one word after another.
use Rattle.std.proofs.Common.{◌≡◌, ℕ, List, ◌++◌, sym, refl, ap, ◌∙◌, subst, append_assoc}
use Rattle.cbor.specs.Prefix.{Any, PrefixFree, Then}
use Rattle.prefixes.specs.Words.{Word, Reach, Room, Keyed}
use Rattle.prefixes.specs.Walks.{Told, done, cut, wrong, Holds, on_told, carry}
use Rattle.prefixes.proofs.Words.{then_starts, then_goes_on, then_unread, then_unread_on, then_wrong, then_wrong_on, wrong_same}

module _ {I J K : Type 0} (A B : I → List ℕ → Type 0) (free : PrefixFree A) (on : (i : I) (u : List ℕ) → A i u → (v : List ℕ) × B i v) (S : J → List ℕ → Type 0)
    (T : K → List ℕ → Type 0) where
  -- in the second
  pub carry_holds : (g : J → K) (i : I) (u rest : List ℕ) (o : Told J) → A i u → ((j : J) (v : List ℕ) → B i v → S j v → T (g j) (u ++ v)) → Holds (B i) S rest o
      → Holds (Then A B) T (u ++ rest) (carry g u o)
  carry_holds g i u rest (done j v r) a f (b, s, e) = ((i, u, v, a, b, refl), f j v b s, ap (λ x. u ++ x) e ∙ sym (append_assoc u v r))
  carry_holds g i u rest cut a f (b, n) = (then_goes_on A B free on i u rest a b, then_unread_on A B free on i u rest a n)
  carry_holds g i u rest (wrong p) a f (w, n) = (then_wrong_on A B free on i u rest p a w, then_unread_on A B free on i u rest a n)

  -- in the first, and then in the second
  pub then_holds : {L : Type 0} (R : L → List ℕ → Type 0) (q : List ℕ) (o : Told L) (f : L → List ℕ → List ℕ → Told K) → Holds (Any A) R q o
      → ((l : L) (u rest : List ℕ) → Any A u → R l u → q ≡ u ++ rest → Holds (Then A B) T (u ++ rest) (f l u rest)) → Holds (Then A B) T q (on_told o f)
  then_holds R q (done l u rest) f (a, r, e) g = subst (λ x. Holds (Then A B) T x (f l u rest)) (sym e) (g l u rest a r e)
  then_holds R q cut f (b, n) g = (then_starts A B free on q b, then_unread A B free on q n)
  then_holds R q (wrong p) f (w, n) g = (then_wrong A B free on q p n w, then_unread A B free on q n)

-- sets with the same words
pub holds_same : {I : Type 0} (V W : List ℕ → Type 0) (S : I → List ℕ → Type 0) → ((w : List ℕ) → V w → W w) → ((w : List ℕ) → W w → V w) → (q : List ℕ) (o : Told I)
    → Holds V S q o → Holds W S q o
holds_same V W S f g q (done i u rest) (v, s, e) = (f u v, s, e)
holds_same V W S f g q cut ((r, b), n) = ((r, f (q ++ r) b), λ u rest w e. n u rest (g u w) e)
holds_same V W S f g q (wrong p) (w, n) = (wrong_same V W f g q p w, λ u rest x e. n u rest (g u x) e)

-- words by themselves
pub word_holds : {I : Type 0} (W : List ℕ → Type 0) (S : I → List ℕ → Type 0) (q : List ℕ) (o : Told I) → Holds W S q o → Holds (Any (Word W)) S q o
word_holds W S q o h = holds_same W (Any (Word W)) S (λ w a. (w, (refl, a))) (λ w (i, (e, a)). a) q o h

-- no demand is none
pub keyed_holds : {I : Type 0} (W : List ℕ → Type 0) (S : I → List ℕ → Type 0) (q : List ℕ) (o : Told I) → Holds (Keyed W 0) S q o → Holds W S q o
unfolding Room
keyed_holds W S q o h = holds_same (Keyed W 0) W S (λ w a. a.0) (λ w a. (a, tt)) q o h

-- words, and their reach
abbrev pub ReachTold : (List ℕ → Type 0) → List ℕ → Told ℕ → Type 0
ReachTold W q o = Holds W (λ m u. Reach W u m) q o
