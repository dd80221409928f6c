-- The rows of the table.
use Rattle.std.proofs.Common.{◌≡◌, ℕ, zero, suc, ◌+◌, ◌-◌, ◌*◌, ◌<◌, ◌≤◌, List, [], ◌∷◌, ◌++◌, length, get_or, take, drop, set, sym, refl, ap, ◌∙◌, subst, append_assoc, add-one, arith, Bor}
use Rattle.std.specs.Simd.{first_chunks}
use Rattle.std.proofs.lemmas.Grind.{take-set_at}
use Rattle.std.proofs.lemmas.List.{length-set, get_or-take, get_or-drop, get_or_append_left, get_or-append-add, length-take-le, append-nil}
use Rattle.cbor.specs.Encoding.{head}
use Rattle.cbor.proofs.Places.{part_length, part_split}
use Rattle.sequence.specs.Token.{num, str, token_bytes, spell}
use Rattle.sequence.specs.Reading.{SpelledAt}
use Rattle.schema.specs.declared.nodes.Node.{Node}
use Rattle.schema.specs.declared.entries.Entry.{Entry}
use Rattle.schema.specs.declared.entries.Form.{Form}
use Rattle.schema.specs.declared.entries.Form.TheVariants.{String}
use Rattle.schema.specs.Entries.{form_tokens, EntryOf}
use Rattle.schema.specs.Table.{row_says, row_at, rows, RowOf, RowWritten}

-- rows of the same numbers are the same
rows_same : (bs old new : List ℕ) (n : ℕ) → ((j : ℕ) → j < 4 * n → get_or new j 0 ≡ get_or old j 0) → rows bs new n ≡ rows bs old n
unfolding rows
rows_same bs old new zero h = refl
rows_same bs old new (suc n) h =
    let a = h (4 * n) (omega arith) in
    let b = h (4 * n + 1) (omega arith) in
    let c = h (4 * n + 2) (omega arith) in
    let d = h (4 * n + 3) (omega arith) in
    (λ i. rows_same bs old new n (λ j l. h j (omega arith)) i ++ row_says bs (a i) (b i) (c i) (d i))

-- what stands after them says nothing
pub rows_before : (bs table rest : List ℕ) (n : ℕ) → 4 * n ≤ length table → rows bs (table ++ rest) n ≡ rows bs table n
rows_before bs table rest n h = rows_same bs table (table ++ rest) n (λ j l. get_or_append_left table rest 0 j (omega arith))

row_same : (bs row table : List ℕ) (n : ℕ) → ((j : ℕ) → j < 4 → get_or row j 0 ≡ get_or table (4 * n + j) 0) → row_at bs row 0 ≡ row_at bs table n
row_same bs row table n h =
    let a : get_or row 0 0 ≡ get_or table (4 * n) 0 = h 0 (omega arith) ∙ ap (λ j. get_or table j 0) (omega arith) in
    let b = h 1 (omega arith) in
    let c = h 2 (omega arith) in
    let d = h 3 (omega arith) in
    (λ i. row_says bs (a i) (b i) (c i) (d i))

rows_more : (bs table : List ℕ) (n : ℕ) → rows bs table (n + 1) ≡ rows bs table n ++ row_at bs table n
unfolding rows
rows_more bs table n = ap (rows bs table) (add-one n)

-- four numbers written one after the other
pub four_set : (old : List ℕ) (i a b c d : ℕ) → i + 4 ≤ length old → take (i + 4) (set (set (set (set old i a) (i + 1) b) (i + 2) c) (i + 3) d) ≡ take i old ++ a ∷ b ∷ c ∷ d ∷ []
four_set old i a b c d h =
    let one = set old i a in
    let two = set one (i + 1) b in
    let three = set two (i + 2) c in
    let l : length one ≡ length old = length-set old i a in
    let m : length two ≡ length one = length-set one (i + 1) b in
    let k : length three ≡ length two = length-set two (i + 2) c in
    take-set_at three (i + 3) (i + 4) d (omega arith) (omega arith)
    ∙ ap (λ t. t ++ d ∷ []) (take-set_at two (i + 2) (i + 3) c (omega arith) (omega arith) ∙ ap (λ t. t ++ c ∷ []) (take-set_at one (i + 1) (i + 2) b (omega arith) (omega arith) ∙ ap (λ t. t ++ b ∷ []) (take-set_at old i (i + 1) a refl (omega arith))))
    ∙ ap (λ t. t ++ d ∷ []) (ap (λ t. t ++ c ∷ []) (append_assoc (take i old) (a ∷ []) (b ∷ [])) ∙ append_assoc (take i old) (a ∷ b ∷ []) (c ∷ []))
    ∙ append_assoc (take i old) (a ∷ b ∷ c ∷ []) (d ∷ [])

pub row_written : (old new row : List ℕ) (n : ℕ) (x : Node) (next : ℕ) (y : Entry) → 4 * n + 4 ≤ length old → take (4 * n + 4) new ≡ take (4 * n) old ++ row → EntryOf x y → RowOf y next row → RowWritten old n x next new
row_written old new row n x next y h e is says bs at q =
    rows_more bs new n ∙ (λ i. rows_same bs old new n before i ++ sym (row_same bs row new n own) i) ∙ ap (λ ts. rows bs old n ++ ts) (says bs at (subst (λ ts. SpelledAt ts bs at next) (sym is) q) ∙ is)
  where
    part : (j : ℕ) → j < 4 * n + 4 → get_or new j 0 ≡ get_or (take (4 * n) old ++ row) j 0
    part j l = sym (get_or-take (4 * n + 4) new j 0 l) ∙ ap (λ t. get_or t j 0) e

    front : length (take (4 * n) old) ≡ 4 * n
    front = length-take-le (4 * n) old (omega arith)

    before : (j : ℕ) → j < 4 * n → get_or new j 0 ≡ get_or old j 0
    before j l = part j (omega arith) ∙ get_or_append_left (take (4 * n) old) row 0 j (omega (arith, front)) ∙ get_or-take (4 * n) old j 0 l

    own : (j : ℕ) → j < 4 → get_or row j 0 ≡ get_or new (4 * n + j) 0
    own j l = sym (part (4 * n + j) (omega arith) ∙ ap (λ k. get_or (take (4 * n) old ++ row) (k + j) 0) (sym front) ∙ get_or-append-add (take (4 * n) old) row j 0)

-- the rows of a table, as chunks of its numbers
chunk_at : (count i j : ℕ) (table none : List ℕ) → i < count → j < 4 → get_or (get_or (first_chunks 4 count table) i none) j 0 ≡ get_or table (4 * i + j) 0
chunk_at zero i j table none h l = absurd (omega arith)
chunk_at (suc count) zero j table none h l = get_or-take 4 table j 0 l ∙ ap (λ k. get_or table k 0) (let z : j ≡ 4 * 0 + j = omega arith in z)
chunk_at (suc count) (suc i) j table none h l = chunk_at count i j (drop 4 table) none (omega arith) l ∙ get_or-drop 4 table (4 * i + j) 0 ∙ ap (λ k. get_or table k 0) (let z : 4 + (4 * i + j) ≡ 4 * suc i + j = omega arith in z)

pub row_read : (bs table row : List ℕ) (count i : ℕ) → i < count → row ≡ get_or (first_chunks 4 count table) i row → row_at bs row 0 ≡ row_at bs table i
row_read bs table row count i h e = row_same bs row table i (λ j l. ap (λ r. get_or r j 0) e ∙ chunk_at count i j table row h l)

-- a string that is the last of some tokens ends where they do
last_string : (n : ℕ) (k : List ℕ) (bs : List ℕ) (at end : ℕ) → SpelledAt (num n ∷ str k ∷ []) bs at end → take (length k) (drop (end - length k) bs) ≡ k
unfolding spell
last_string n k bs at end (h, l, e) =
    let u = token_bytes (num n) ++ head 2 (length k) in
    let f : take (end - at) (drop at bs) ≡ u ++ k = e ∙ ap (λ y. token_bytes (num n) ++ y) (append-nil (token_bytes (str k))) ∙ sym (append_assoc (token_bytes (num n)) (head 2 (length k)) k) in
    let (m, a, b) = part_split bs u k at end h l f in
    let z : end - (at + length u) ≡ length k = (let y = ap length b in let x = part_length bs (at + length u) end m l in omega arith) in
    let w : at + length u ≡ end - length k = omega arith in
    subst (λ j. take (length k) (drop j bs) ≡ k) w (subst (λ j. take j (drop (at + length u) bs) ≡ k) z b)

pub string_row : (o : ℕ) (f : Form) (s : Bor (List ℕ)) (next first : ℕ) → f ≡ String s → first ≡ next - length s.now → (bs : List ℕ) (at : ℕ) → SpelledAt (form_tokens o f) bs at next → num o ∷ str (take (length s.now) (drop first bs)) ∷ [] ≡ form_tokens o f
string_row o f s next first e k bs at p =
    let q : SpelledAt (num o ∷ str s.now ∷ []) bs at next = subst (λ g. SpelledAt (form_tokens o g) bs at next) e p in
    ap (λ w. num o ∷ str w ∷ []) (ap (λ j. take (length s.now) (drop j bs)) k ∙ last_string o s.now bs at next q) ∙ sym (ap (form_tokens o) e)
