-- Major types and their numbers.
use Rattle.std.proofs.Common.{◌≡◌, true, false, eqb, sym, refl, ◌∙◌}
use Rattle.std.proofs.lemmas.Bool.{eqb-true, eqb-false}
use denote.Enum.Declared.{tag_of}
use denote.Enum.Bare.{sameb}
use Rattle.cbor.specs.declared.Major.{Major}
use Rattle.cbor.specs.declared.Major.TheVariants.{Unsigned, Negative, Bytes, Text, Array, Map, Tag, Simple}
use Rattle.cbor.specs.contracts.Major.{the_type}
use Rattle.cbor.specs.Encoding.{major_number}

number_is_tag : (m : Major) → tag_of the_type m ≡ major_number m
number_is_tag Unsigned = refl
number_is_tag Negative = refl
number_is_tag Bytes = refl
number_is_tag Text = refl
number_is_tag Array = refl
number_is_tag Map = refl
number_is_tag Tag = refl
number_is_tag Simple = refl

-- they are the same where their numbers are
same_major : (a b : Major) → sameb the_type a b ≡ eqb (major_number a) (major_number b)
same_major a b i = eqb (number_is_tag a i) (number_is_tag b i)

pub same_number : (a b : Major) → sameb the_type a b ≡ true → major_number a ≡ major_number b
same_number a b h = eqb-true (major_number a) (major_number b) (sym (same_major a b) ∙ h)

pub other_number : (a b : Major) → sameb the_type a b ≡ false → major_number a ≡ major_number b → ⊥
other_number a b h e = eqb-false (major_number a) (major_number b) (sym (same_major a b) ∙ h) e
