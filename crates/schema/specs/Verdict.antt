-- What reading rules tells.
use Rattle.std.specs.Prelude.{◌≡◌, ℕ, suc, ◌<◌, ◌≤◌, ◌⊎◌, List, [], ◌∷◌, ◌++◌, length, take, Ok, Err, Result, codes, decimal}
use Rattle.cbor.specs.Prefix.{Begins, Any}
use Rattle.sequence.specs.Token.{Token, num}
use Rattle.sequence.specs.Grammar.{Takes, many}
use Rattle.sequence.specs.Reading.{SpelledAt}
use Rattle.schema.specs.declared.nodes.Run.{Run}
use Rattle.schema.specs.declared.reader.Reader.{Reader}
use Rattle.schema.specs.declared.reading.NoRules.{NoRules}
use Rattle.schema.specs.declared.reading.NoRules.TheVariants.{TooLittleLent, TooLarge, Wrong}
use Rattle.schema.specs.declared.reading.Rules.{Rules}
use Rattle.schema.specs.Rules.{Schema, tokens, AreRules, Writable, write, parts}
use Rattle.schema.specs.Grammar.{Sort, the_rules, grammar, parts_in}
use Rattle.schema.specs.Nodes.{sort_of}
use Rattle.schema.specs.Reading.{Whole}
use Rattle.schema.specs.Table.{rows}

-- what is printed
abbrev pub reason : NoRules → List ℕ
reason TooLittleLent = codes "too little is lent"
reason TooLarge = codes "too large"
reason (Wrong place) = codes "wrong at " ++ decimal place

-- the table's rows say what rules are written in
abbrev pub Tabled : List Schema → List ℕ → List ℕ → ℕ → Type 0
Tabled ss bs table nodes = tokens ss ≡ num (length ss) ∷ rows bs table nodes

-- more than 8,192 parts stand before the first byte that isn't rules, in whole nodes
abbrev pub HasTooMany : List ℕ → Type 0
HasTooMany bs = (ts : List Token) × (rest : List Sort) × (end : ℕ) × SpelledAt ts bs 0 end × Takes grammar (the_rules ∷ []) ts rest × Whole rest × (8192 < parts_in (the_rules ∷ []) ts)

-- the place: the first byte with which no rules begin (the first byte after they are complete is one), or the end if all of the bytes are only a beginning
pub record WrongAt (bs : List ℕ) (place : ℕ) : Type 0 where
  pub within : place ≤ length bs
  pub begins : Begins (Any AreRules) (take place bs)
  pub ends : place < length bs → Begins (Any AreRules) (take (suc place) bs) → ⊥
  pub short : place ≡ length bs → Any AreRules bs → ⊥

-- how far reading has come: the tokens so far lead to what is pending, complete so many parts, and are what the table says
pub record Reached (bs table : List ℕ) (ss : List Sort) (at parts nodes : ℕ) : Type 0 where
  pub few : parts ≤ 8192
  pub read : List Token
  pub spelled : SpelledAt read bs 0 at
  pub takes : Takes grammar (the_rules ∷ []) read ss
  pub counted : parts ≡ parts_in (the_rules ∷ []) read
  pub listed : nodes ≤ parts
  pub count : ℕ
  pub tabled : read ≡ num count ∷ rows bs table nodes

abbrev pub Refused : List ℕ → NoRules → Type 0
Refused bs TooLittleLent = ⊥
Refused bs TooLarge = HasTooMany bs
Refused bs (Wrong place) = WrongAt bs place × (HasTooMany bs → ⊥)

abbrev pub Stands : Reader → List Sort → Type 0
Stands r ss = Reached r.bytes.now r.table.now ss r.at r.parts r.nodes

-- one node more, and what is in it is pending before the rest
abbrev pub Advances : Reader → List Sort → Reader → Result Run NoRules → Type 0
Advances old ss new (Ok inner) = Stands new (many inner.count (sort_of inner.sort) ++ ss) × (new.bytes.now ≡ old.bytes.now) × (old.at < new.at) × (old.parts < new.parts)
Advances old ss new (Err e) = Refused old.bytes.now e

-- all of them: the table says just the tokens that the rules are
abbrev pub RulesAt : List ℕ → List ℕ → Result Rules NoRules → Type 0
RulesAt bs table (Ok r) = ((ss : List Schema) × AreRules ss bs × (r.parts ≡ parts ss) × Tabled ss bs table r.nodes) × (r.nodes ≤ r.parts) × (r.parts ≤ 8192) × (HasTooMany bs → ⊥)
RulesAt bs table (Err e) = Refused bs e

-- with so much lent for the stack and for the table
abbrev pub Enough : ℕ → ℕ → Type 0
Enough stack table = (16388 ≤ stack) × (32768 ≤ table)

abbrev pub RulesTold : Type 0 → List ℕ → List ℕ → Result Rules NoRules → Type 0
RulesTold Enough bs table (Ok r) = Enough × RulesAt bs table (Ok r)
RulesTold Enough bs table (Err TooLittleLent) = Enough → ⊥
RulesTold Enough bs table (Err TooLarge) = Enough × HasTooMany bs
RulesTold Enough bs table (Err (Wrong place)) = Enough × (WrongAt bs place × (HasTooMany bs → ⊥))

-- rules that can be told anything of: they are some, or more than are looked at
abbrev pub Readable : List ℕ → Type 0
Readable bs = Any AreRules bs ⊎ HasTooMany bs

-- or neither, with the place
abbrev pub Malformed : List ℕ → ℕ → Type 0
Malformed bs place = WrongAt bs place × (HasTooMany bs → ⊥)

-- rules that were written are read as themselves, with their parts
abbrev pub IsRead : List Schema → List ℕ → List ℕ → Result Rules NoRules → Type 0
IsRead ss bs table (Ok r) = (r.parts ≡ parts ss) × Tabled ss bs table r.nodes
IsRead ss bs table (Err e) = ⊥

abbrev pub ReadsBack : Type 0 → List ℕ → List ℕ → Result Rules NoRules → Type 0
ReadsBack Enough bs table r = (ss : List Schema) → Writable ss → bs ≡ write ss → parts ss ≤ 8192 → Enough → IsRead ss bs table r
