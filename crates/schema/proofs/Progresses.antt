-- Reading rules, node by node.
use Rattle.std.proofs.Common.{◌≡◌, ℕ, zero, suc, ◌+◌, ◌-◌, ◌<◌, ◌≤◌, List, [], ◌∷◌, ◌++◌, length, get_or, take, drop, Ok, Err, Result, IsErrAnd, sym, refl, ap, ◌∙◌, subst, inl, inr, append_assoc, arith, take-append-drop}
use Rattle.std.proofs.lemmas.Bool.{cases_lt}
use Rattle.std.proofs.lemmas.List.{append-nil, take_all, take_more}
use Rattle.cbor.specs.declared.reading.Stop.{Stop}
use Rattle.cbor.specs.Prefix.{Any as AnyOf, Stops}
use Rattle.cbor.specs.Reading.{Stopped}
use Rattle.sequence.specs.Token.{Token, num, spell, number, TokenOf}
use Rattle.sequence.specs.Grammar.{Takes, Completes, many}
use Rattle.sequence.specs.Reading.{TokenAt, SpelledAt, PendingStops}
use Rattle.sequence.proofs.Grammars.{takes_append, completes_free, spelled_one, spelled_append, stop_after, one_begins}
use Rattle.sequence.specs.declared.reading.Parsed.{Parsed}
use Rattle.schema.specs.declared.nodes.Schema.TheVariants.{Any, Unsigned, Negative, ByteLength, TextLength, Literal, Choice, Array, Map, Tag, Rule}
use Rattle.schema.specs.declared.nodes.Group.TheVariants.{Empty, One, Sequence, FirstOf, Repeat}
use Rattle.schema.specs.declared.nodes.Field.TheVariants.{Required, Optional, Others}
use Rattle.schema.specs.declared.nodes.Node.{Node}
use Rattle.schema.specs.declared.nodes.Node.TheVariants.{OfSchema, OfGroup, OfField}
use Rattle.schema.specs.declared.nodes.Run.{Run}
use Rattle.schema.specs.declared.nodes.Sort.{Sort as NodeSort}
use Rattle.schema.specs.Rules.{Schema, tokens, write, Writable, AreRules, parts}
use Rattle.schema.specs.Grammar.{Sort, the_rules, a_rule, grammar, parts_in}
use Rattle.schema.specs.Nodes.{own_tokens, sort_of, inner_of_node, inside, run_of, string_in, rule_part}
use Rattle.schema.specs.Reading.{Opens, Whole, Stuck, NodeAt}
use Rattle.schema.specs.Stacks.{number_sort, pending}
use Rattle.schema.specs.declared.reading.Rules.{Rules}
use Rattle.schema.specs.declared.reading.NoRules.{NoRules}
use Rattle.schema.specs.declared.reading.NoRules.TheVariants.{TooLittleLent, TooLarge, Wrong}
use Rattle.schema.specs.Verdict.{HasTooMany, WrongAt, Reached, Refused, Tabled, RulesAt, RulesTold, IsRead}
use Rattle.schema.proofs.Trees.{rules_take, rules_in, are_completes, completes_are}
use Rattle.schema.specs.Table.{rows, RowWritten}
use Rattle.schema.proofs.Places.{ceases_first}
use Rattle.schema.proofs.Rows.{rows_before}
use Rattle.schema.proofs.Parts.{parts_append, rules_count, node_weighs}

-- where pending rules stop, they are wrong
pub wrong_from : (bs : List ℕ) (stop : Stop) → PendingStops grammar (the_rules ∷ []) bs 0 stop → WrongAt bs stop.place
wrong_from bs stop (h, t) =
    let z : stop.place - 0 ≡ stop.place = omega arith in
    let s = subst (λ p. Stops (AnyOf (Completes grammar (the_rules ∷ []))) bs p (stop.least - 0)) z t in
    record {
      within = s.within;
      begins = (let (r, c) = s.begins in (r, completes_are (take stop.place bs ++ r) c));
      ends = λ l (r, c). s.ends l (r, are_completes (take (suc stop.place) bs ++ r) c);
      short = λ e a. s.unread bs [] (are_completes bs a) (sym (append-nil bs));
    }

-- with no more parts than those read, and no node that can follow, there are not too many
not_too_many : (bs : List ℕ) (ts : List Token) (rest : List Sort) (end : ℕ) → Takes grammar (the_rules ∷ []) ts rest → SpelledAt ts bs 0 end → parts_in (the_rules ∷ []) ts ≤ 8192 → Stuck rest bs end → HasTooMany bs → ⊥
not_too_many bs ts rest end f p l stuck (us, other, last, q, g, w, m) =
    elim (one_begins grammar (the_rules ∷ []) rest other ts us bs 0 end last f g p q) [
      | inl (vs, e, t, o) ↦
          let z = stuck vs other last t o w in
          omega (arith, ap (parts_in (the_rules ∷ [])) (e ∙ ap (λ y. ts ++ y) z ∙ append-nil ts))
      | inr (vs, e, t) ↦ omega (arith, ap (parts_in (the_rules ∷ [])) e, parts_append (the_rules ∷ []) other us vs g)
    ]

-- after an opened node others of the same kind may come
whole_many : (k : ℕ) (s : Sort) (ss : List Sort) → Opens s → Whole ss → Whole (many k s ++ ss)
unfolding many
whole_many zero s ss o w = w
whole_many (suc k) s ss o w = o

pub whole_pending : (runs : List (List ℕ)) (k : ℕ) → Whole (pending runs k)
unfolding pending
whole_pending runs zero = tt
whole_pending runs (suc k) =
    let run = get_or runs k [] in
    whole_many (get_or run 1 0) (number_sort (get_or run 0 0)) (pending runs k) (opens (get_or run 0 0)) (whole_pending runs k)
  where
    opens : (n : ℕ) → Opens (number_sort n)
    opens zero = tt
    opens (suc zero) = tt
    opens (suc (suc zero)) = tt
    opens (suc (suc (suc n))) = tt

opens_inside : (x : Node) → Opens (inner_of_node x).0
opens_inside (OfSchema Any) = tt
opens_inside (OfSchema (Unsigned lo hi)) = tt
opens_inside (OfSchema (Negative lo hi)) = tt
opens_inside (OfSchema (ByteLength lo hi)) = tt
opens_inside (OfSchema (TextLength lo hi)) = tt
opens_inside (OfSchema (Literal item)) = tt
opens_inside (OfSchema Choice) = tt
opens_inside (OfSchema Array) = tt
opens_inside (OfSchema (Map count)) = tt
opens_inside (OfSchema (Tag n)) = tt
opens_inside (OfSchema (Rule n)) = tt
opens_inside (OfGroup Empty) = tt
opens_inside (OfGroup One) = tt
opens_inside (OfGroup Sequence) = tt
opens_inside (OfGroup FirstOf) = tt
opens_inside (OfGroup (Repeat lo hi)) = tt
opens_inside (OfField (Required key)) = tt
opens_inside (OfField (Optional key)) = tt
opens_inside (OfField Others) = tt

module _ (bs table : List ℕ) (q : NodeSort) (ss : List Sort) (at parts nodes : ℕ) (h : Reached bs table (sort_of q ∷ ss) at parts nodes) where
  -- no node there
  pub no_node : (stop : Stop) → NodeAt (sort_of q) bs at (Err stop) → WrongAt bs stop.place × (HasTooMany bs → ⊥)
  no_node stop f = (wrong_from bs stop (stop_after grammar (the_rules ∷ []) (sort_of q ∷ ss) h.read bs 0 at stop h.takes h.spelled (f ss).0), not_too_many bs h.read (sort_of q ∷ ss) at h.takes h.spelled (let z = h.few in let y = h.counted in omega arith) (f ss).1)

  -- one there
  module _ (x : Parsed Node) (node : NodeAt (sort_of q) bs at (Ok x)) where
    spelled : SpelledAt (h.read ++ own_tokens x.value) bs 0 x.next
    spelled = spelled_append h.read (own_tokens x.value) bs 0 at x.next h.spelled node.2

    taking : Takes grammar (the_rules ∷ []) (h.read ++ own_tokens x.value) (inside x.value ++ ss)
    taking = takes_append grammar (the_rules ∷ []) (sort_of q ∷ ss) (inside x.value ++ ss) h.read (own_tokens x.value) h.takes (node.3 ss)

    counting : parts_in (the_rules ∷ []) (h.read ++ own_tokens x.value) ≡ parts + (rule_part q + (1 + string_in x.value))
    counting = parts_append (the_rules ∷ []) (sort_of q ∷ ss) h.read (own_tokens x.value) h.takes ∙ (λ i. sym h.counted i + node_weighs q x.value ss node.0 i)

    pub too_many : Whole ss → 8192 < parts + (rule_part q + (1 + string_in x.value)) → HasTooMany bs
    too_many w l = (h.read ++ own_tokens x.value, inside x.value ++ ss, x.next, spelled, taking, whole_many (inner_of_node x.value).1 (inner_of_node x.value).0 ss (opens_inside x.value) w, subst (λ n. 8192 < n) (sym counting) l)

    pub one_node : (rowed : List ℕ) (r : Run) (n : ℕ) → RowWritten table nodes x.value x.next rowed → run_of r ≡ inner_of_node x.value → n ≡ parts + (rule_part q + (1 + string_in x.value)) → n ≤ 8192 → Reached bs rowed (many r.count (sort_of r.sort) ++ ss) x.next n (nodes + 1)
    one_node rowed r n row e m l = record {
      few = l;
      read = h.read ++ own_tokens x.value;
      spelled = spelled;
      takes = subst (λ rest. Takes grammar (the_rules ∷ []) (h.read ++ own_tokens x.value) rest) (sym (ap (λ y. many y.1 y.0 ++ ss) e)) taking;
      counted = m ∙ sym counting;
      listed = (let z = h.listed in omega arith);
      count = h.count;
      tabled = ap (λ ts. ts ++ own_tokens x.value) h.tabled ∙ ap (λ ts. num h.count ∷ ts) (sym (row bs at node.2));
    }

-- a refusal that is handed on
pub refused : {A : Type 0} (Q : Result A NoRules → Type 0) (bs : List ℕ) (e : NoRules) (r : Result A NoRules) → IsErrAnd r (λ f. f ≡ e) → Refused bs e → ((f : NoRules) → Refused bs f → Q (Err f)) → Q r
refused Q bs e (Ok _) h w q = absurd h
refused Q bs e (Err f) h w q = q f (subst (Refused bs) (sym h) w)

-- THE BEGINNING AND THE END

pub no_number : (bs : List ℕ) (stop : Stop) → Stopped (AnyOf (TokenOf number)) bs 0 stop → WrongAt bs stop.place × (HasTooMany bs → ⊥)
unfolding Takes spell parts_in
no_number bs stop h =
    let (p, stuck) = ceases_first the_rules [] bs 0 stop h in
    (wrong_from bs stop p, not_too_many bs [] (the_rules ∷ []) 0 refl (omega arith, omega arith, refl) (omega arith) stuck)

pub begun : (bs table : List ℕ) (n end : ℕ) (ss : List Sort) → TokenAt number (num n) bs 0 end → ss ≡ many n a_rule ++ [] → Reached bs table ss end 0 0
unfolding Takes parts_in rows
begun bs table n end ss t e = record {
  few = omega arith;
  read = num n ∷ [];
  spelled = spelled_one number (num n) bs 0 end t;
  takes = (t.0.2.1, sym e);
  counted = refl;
  listed = omega arith;
  count = n;
  tabled = refl;
}

module _ (bs table : List ℕ) (at parts_read nodes : ℕ) (h : Reached bs table [] at parts_read nodes) where
  front : take at bs ≡ spell h.read
  front = ap (λ k. take k bs) (let y : at ≡ at - 0 = omega arith in y) ∙ h.spelled.2

  -- bytes after the rules
  nothing_more : Stuck [] bs at
  unfolding Takes
  nothing_more [] rest end f p w = refl
  nothing_more (t ∷ vs) rest end f p w = absurd f

  wrong_after : at < length bs → WrongAt bs at
  wrong_after l = record {
    within = omega arith;
    begins = ([], completes_are (take at bs ++ []) (h.read, (append-nil (take at bs) ∙ front, h.takes)));
    ends = λ _ (r, a).
        let (us, (e, f)) = are_completes (take (suc at) bs ++ r) a in
        let b = get_or bs at 0 in
        let g : take (suc at) bs ≡ take at bs ++ b ∷ [] = ap (λ k. take k bs) (let y : suc at ≡ at + 1 = omega arith in y) ∙ take_more bs at 0 l in
        let j : take at bs ++ b ∷ r ≡ spell us = sym (append_assoc (take at bs) (b ∷ []) r) ∙ ap (λ w. w ++ r) (sym g) ∙ e in
        let k = completes_free grammar (the_rules ∷ []) h.read us (take at bs) (b ∷ r) (front, h.takes) (j, f) in
        let y : suc (length r) ≡ 0 = ap length k.1 in
        omega arith;
    short = λ e. absurd (omega arith);
  }

  pub trailing : at < length bs → WrongAt bs at × (HasTooMany bs → ⊥)
  trailing l = (wrong_after l, not_too_many bs h.read [] at h.takes h.spelled (let y = h.few in let x = h.counted in omega arith) nothing_more)

  -- nothing after them
  all_read : length bs ≤ at → ((xs : List Schema) × AreRules xs bs × (parts_read ≡ parts xs) × Tabled xs bs table nodes) × (nodes ≤ parts_read) × (parts_read ≤ 8192) × (HasTooMany bs → ⊥)
  all_read l =
      let (xs, w, e) = rules_in h.read h.takes in
      let f : tokens xs ≡ num h.count ∷ rows bs table nodes = sym e ∙ h.tabled in
      let k : h.count ≡ length xs = cc in
      ((xs, (sym (take_all at bs l) ∙ front ∙ ap spell e, w), h.counted ∙ ap (parts_in (the_rules ∷ [])) e ∙ rules_count xs, f ∙ ap (λ n. num n ∷ rows bs table nodes) k), h.listed, h.few, not_too_many bs h.read [] at h.takes h.spelled (let y = h.few in let x = h.counted in omega arith) nothing_more)

-- all of them, as the table ends
pub whole : (bs given table final : List ℕ) (at parts_read nodes : ℕ) → Reached bs table [] at parts_read nodes → bs ≡ given → final ≡ table → length bs ≤ at → ((xs : List Schema) × AreRules xs given × (parts_read ≡ parts xs) × Tabled xs given final nodes) × (nodes ≤ parts_read) × (parts_read ≤ 8192) × (HasTooMany given → ⊥)
whole bs given table final at parts_read nodes h e f l = subst (λ w. ((xs : List Schema) × AreRules xs w × (parts_read ≡ parts xs) × Tabled xs w final nodes) × (nodes ≤ parts_read) × (parts_read ≤ 8192) × (HasTooMany w → ⊥)) e (subst (λ t. ((xs : List Schema) × AreRules xs bs × (parts_read ≡ parts xs) × Tabled xs bs t nodes) × (nodes ≤ parts_read) × (parts_read ≤ 8192) × (HasTooMany bs → ⊥)) (sym f) (all_read bs table at parts_read nodes h l))

-- in a longer table too
pub lengthened : (bs table rest : List ℕ) (r : Result Rules NoRules) → length table ≡ 32768 → RulesAt bs table r → RulesAt bs (table ++ rest) r
lengthened bs table rest (Ok r) l ((xs, w, e, t), n, m, f) = ((xs, w, e, t ∙ ap (λ ts. num (length xs) ∷ ts) (sym (rows_before bs table rest r.nodes (omega arith)))), n, m, f)
lengthened bs table rest (Err e) l h = h

-- READ BACK

nothing_left : (bs : List ℕ) (at : ℕ) → Stuck [] bs at
unfolding Takes
nothing_left bs at [] rest end f p w = refl
nothing_left bs at (t ∷ vs) rest end f p w = absurd f

module _ (bs : List ℕ) (xs : List Schema) (w : Writable xs) (e : bs ≡ write xs) where
  same_tokens : (ys : List Schema) → AreRules ys bs → tokens ys ≡ tokens xs
  same_tokens ys (f, v) = (completes_free grammar (the_rules ∷ []) (tokens ys) (tokens xs) (write ys) [] (refl, rules_take ys v) (append-nil (write ys) ∙ sym f ∙ e, rules_take xs w)).0

  same_rules : (ys : List Schema) (table : List ℕ) (r : Rules) → AreRules ys bs → r.parts ≡ parts ys → Tabled ys bs table r.nodes → IsRead xs bs table (Ok r)
  same_rules ys table r f m t =
      let z = same_tokens ys f in
      let k : length ys ≡ length xs = cc in
      (m ∙ sym (rules_count ys) ∙ ap (parts_in (the_rules ∷ [])) z ∙ rules_count xs, sym z ∙ t ∙ ap (λ n. num n ∷ rows bs table r.nodes) k)

  few_parts : parts xs ≤ 8192 → HasTooMany bs → ⊥
  few_parts l = not_too_many bs (tokens xs) [] (length bs) (rules_take xs w) (omega arith, omega arith, ap (λ k. take k bs) (let z : length bs - 0 ≡ length bs = omega arith in z) ∙ take_all (length bs) bs (omega arith) ∙ e) (omega (arith, rules_count xs)) (nothing_left bs (length bs))

  not_wrong : (p : ℕ) → WrongAt bs p → ⊥
  not_wrong p h = elim (cases_lt p (length bs)) [
    | inl l ↦ h.ends l (drop (suc p) bs, subst (λ y. AnyOf AreRules y) (sym (take-append-drop (suc p) bs)) (xs, (e, w)))
    | inr l ↦ h.short (let z = h.within in omega arith) (xs, (e, w))
  ]

pub told_from : (Lent : Type 0) (bs table : List ℕ) (r : Result Rules NoRules) → Lent → RulesAt bs table r → RulesTold Lent bs table r
told_from Lent bs table (Ok n) l h = (l, h)
told_from Lent bs table (Err TooLittleLent) l h = absurd h
told_from Lent bs table (Err TooLarge) l h = (l, h)
told_from Lent bs table (Err (Wrong p)) l h = (l, h)

pub read_back : (bs table : List ℕ) (r : Result Rules NoRules) → RulesAt bs table r → (xs : List Schema) → Writable xs → bs ≡ write xs → parts xs ≤ 8192 → IsRead xs bs table r
read_back bs table (Ok r) ((ys, f, m, t), n, b, c) xs w e l = same_rules bs xs w e ys table r f m t
read_back bs table (Err TooLittleLent) h xs w e l = absurd h
read_back bs table (Err TooLarge) h xs w e l = few_parts bs xs w e l h
read_back bs table (Err (Wrong p)) (h, b) xs w e l = not_wrong bs xs w e p h

-- with enough lent, the rules are told of
pub told_at : (Lent : Type 0) (bs table : List ℕ) (r : Result Rules NoRules) → Lent → RulesTold Lent bs table r → RulesAt bs table r
told_at Lent bs table (Ok n) l (_, h) = h
told_at Lent bs table (Err TooLittleLent) l h = h l
told_at Lent bs table (Err TooLarge) l (_, h) = h
told_at Lent bs table (Err (Wrong p)) l (_, h) = h
