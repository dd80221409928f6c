-- Keys in order, wherever a map stands; and maps by their values.
use Rattle.std.proofs.Common.{◌≡◌, ℕ, ◌-◌, true, List, Some, None, sym, refl, ap, ◌∙◌, subst, inl, inr, arith}
use Rattle.std.proofs.lemmas.Bool.{and_parts, cond-true, cond-false, cases_Bool}
use Rattle.cbor.specs.Item.{Item, unsigned, negative, byte_string, text_string, array, map, tag, simple, Items, no_item, more_items, Entries, no_entry, more_entries, how_many, how_many_entries}
use Rattle.cbor.specs.Encoding.{encode}
use Rattle.cbor.specs.Order.{same, before}
use Rattle.cbor.specs.Valid.{first_key_after, valid_at, valid_items, valid_entries}
use Rattle.cbor.specs.Access.{value_at}
use Rattle.laws.specs.Parts.{Inside, Among, AmongEntries, BeforeAll, Ascending}
use Rattle.laws.specs.Laws.{MapsByValues, KeysInOrder}
use Rattle.cbor.proofs.Valid.{nested_parts, entry_parts}
use Rattle.cbor.proofs.Order.{same_refl, same_equal, before_transitive, before_total, before_other}
use Rattle.laws.proofs.Once.{encode_once}

-- IN ORDER

pub before_all_from : (k j : List ℕ) (es : Entries) → before k j ≡ true → BeforeAll j es → BeforeAll k es
unfolding BeforeAll
before_all_from k j no_entry h a = tt
before_all_from k j (more_entries i v es) h (a, b) = (before_transitive k j (encode i) h a, before_all_from k j es h b)

-- neighbours in order are all in order
pub valid_before_all : (d : ℕ) (k : List ℕ) (es : Entries) → first_key_after k es ≡ true → valid_entries d es ≡ true → BeforeAll k es
unfolding BeforeAll first_key_after
valid_before_all d k no_entry n h = tt
valid_before_all d k (more_entries j v es) n h =
    let e = entry_parts d j v es h in
    (n, before_all_from k (encode j) es n (valid_before_all d (encode j) es e.next e.rest))

pub valid_ascending : (d : ℕ) (es : Entries) → valid_entries d es ≡ true → Ascending es
unfolding Ascending
valid_ascending d no_entry h = tt
valid_ascending d (more_entries k v es) h =
    let e = entry_parts d k v es h in
    (valid_before_all d (encode k) es e.next e.rest, valid_ascending d es e.rest)

-- valid at some depth
abbrev ValidSomewhere : Item → Type 0
ValidSomewhere j = (d : ℕ) × (valid_at d j ≡ true)

equal_valid : (d : ℕ) (i j : Item) → valid_at d i ≡ true → j ≡ i → ValidSomewhere j
equal_valid d i j h e = (d, ap (valid_at d) e ∙ h)

mutual
  unfolding valid_at Inside

  pub inside_valid : (i j : Item) (d : ℕ) → valid_at d i ≡ true → Inside j i → ValidSomewhere j
  inside_valid (unsigned n) j d h x = absurd x
  inside_valid (negative n) j d h x = absurd x
  inside_valid (byte_string bs) j d h x = absurd x
  inside_valid (text_string bs) j d h x = absurd x
  inside_valid (array is) j d h x =
      let p = nested_parts d (how_many is) (valid_items (d - 1) is) h in
      among_valid is j (d - 1) p.2 x
  inside_valid (map es) j d h x =
      let p = nested_parts d (how_many_entries es) (valid_entries (d - 1) es) h in
      among_entries_valid es j (d - 1) p.2 x
  inside_valid (tag n i) j d h x =
      let p = nested_parts d n (valid_at (d - 1) i) h in
      elim x [ inl e ↦ equal_valid (d - 1) i j p.2 e | inr y ↦ inside_valid i j (d - 1) p.2 y ]
  inside_valid (simple n) j d h x = absurd x

  pub among_valid : (is : Items) (j : Item) (d : ℕ) → valid_items d is ≡ true → Among j is → ValidSomewhere j
  among_valid no_item j d h x = absurd x
  among_valid (more_items i is) j d h x =
      let p = and_parts (valid_at d i) (valid_items d is) h in
      elim x [ inl e ↦ equal_valid d i j p.0 e | inr (inl y) ↦ inside_valid i j d p.0 y | inr (inr y) ↦ among_valid is j d p.1 y ]

  pub among_entries_valid : (es : Entries) (j : Item) (d : ℕ) → valid_entries d es ≡ true → AmongEntries j es → ValidSomewhere j
  among_entries_valid no_entry j d h x = absurd x
  among_entries_valid (more_entries k v es) j d h x =
      let p = entry_parts d k v es h in
      elim x [
        | inl e ↦ equal_valid d k j p.key e
        | inr (inl y) ↦ inside_valid k j d p.key y
        | inr (inr (inl e)) ↦ equal_valid d v j p.value e
        | inr (inr (inr (inl y))) ↦ inside_valid v j d p.value y
        | inr (inr (inr (inr y))) ↦ among_entries_valid es j d p.rest y
      ]

map_ascending : (d : ℕ) (es : Entries) → valid_at d (map es) ≡ true → Ascending es
unfolding valid_at
map_ascending d es h =
    let p = nested_parts d (how_many_entries es) (valid_entries (d - 1) es) h in
    valid_ascending (d - 1) es p.2

pub keys_in_order : KeysInOrder
keys_in_order i es h (inl e) = map_ascending 32 es (ap (valid_at 32) e ∙ h)
keys_in_order i es h (inr x) = let (d, g) = inside_valid i (map es) 32 h x in map_ascending d es g

-- BY VALUES

-- a key before all others has no value among them
pub no_value : (k : Item) (es : Entries) → BeforeAll (encode k) es → value_at k es ≡ None
unfolding BeforeAll value_at
no_value k no_entry a = refl
no_value k (more_entries j v es) (a, b) = cond-false (same (encode k) (encode j)) (Some v) (value_at k es) (before_other (encode k) (encode j) a) ∙ no_value k es b

pub value_first : (k v : Item) (es : Entries) → value_at k (more_entries k v es) ≡ Some v
unfolding value_at
value_first k v es = cond-true (same (encode k) (encode k)) (Some v) (value_at k es) (same_refl (encode k))

-- a key that comes first in one map, and before all in another with the same value there
apart : (k v : Item) (es fs : Entries) → value_at k (more_entries k v es) ≡ value_at k fs → BeforeAll (encode k) fs → ⊥
apart k v es fs e b =
    let p = value_first k v es in
    let q = no_value k fs b in
    let z : ◌≡◌ {A = ℕ} 0 1 = cc in
    omega arith

pub same_values : (es fs : Entries) (d : ℕ) → valid_entries d es ≡ true → valid_entries d fs ≡ true
    → ((k : Item) → valid_at d k ≡ true → value_at k es ≡ value_at k fs) → es ≡ fs
unfolding value_at Ascending BeforeAll
same_values no_entry no_entry d h g e = refl
same_values no_entry (more_entries j w fs) d h g e = absurd (apart j w fs no_entry (sym (e j (entry_parts d j w fs g).key)) tt)
same_values (more_entries k v es) no_entry d h g e = absurd (apart k v es no_entry (e k (entry_parts d k v es h).key) tt)
same_values (more_entries k v es) (more_entries j w fs) d h g e =
    let p = entry_parts d k v es h in
    let q = entry_parts d j w fs g in
    let a = valid_ascending d (more_entries k v es) h in
    let b = valid_ascending d (more_entries j w fs) g in
    elim (before_total (encode k) (encode j)) [
      | inl x ↦
          let i : k ≡ j = encode_once d k j p.key q.key x in
          let s : Some v ≡ Some w = sym (value_first k v es) ∙ e k p.key ∙ ap (λ y. value_at y (more_entries j w fs)) i ∙ value_first j w fs in
          let r = same_values es fs d p.rest q.rest (rest_same k v es j w fs d x a.0 b.0 e) in
          cc
      | inr (inl x) ↦ absurd (apart k v es (more_entries j w fs) (e k p.key) (x, before_all_from (encode k) (encode j) fs x b.0))
      | inr (inr x) ↦ absurd (apart j w fs (more_entries k v es) (sym (e j q.key)) (x, before_all_from (encode j) (encode k) es x a.0))
    ]
  where
    -- after equal keys the others have the same values
    rest_same : (k v : Item) (es : Entries) (j w : Item) (fs : Entries) (d : ℕ) → encode k ≡ encode j → BeforeAll (encode k) es → BeforeAll (encode j) fs
        → ((i : Item) → valid_at d i ≡ true → value_at i (more_entries k v es) ≡ value_at i (more_entries j w fs)) → (i : Item) → valid_at d i ≡ true → value_at i es ≡ value_at i fs
    rest_same k v es j w fs d x a b e i h =
        elim (cases_Bool (same (encode i) (encode k))) [
          | inl t ↦
              let y = same_equal (encode i) (encode k) t in
              no_value i es (subst (λ z. BeforeAll z es) (sym y) a) ∙ sym (no_value i fs (subst (λ z. BeforeAll z fs) (sym (y ∙ x)) b))
          | inr f ↦
              sym (cond-false (same (encode i) (encode k)) (Some v) (value_at i es) f) ∙ e i h
              ∙ cond-false (same (encode i) (encode j)) (Some w) (value_at i fs) (ap (same (encode i)) (sym x) ∙ f)
        ]

pub maps_by_values : MapsByValues
maps_by_values d es fs h g e = same_values es fs d h g e
