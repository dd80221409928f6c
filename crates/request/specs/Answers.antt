-- Answers: the number and the values of each, and the line that says them.
use Rattle.std.specs.Prelude.{ℕ, cond, List, [], ◌∷◌, ◌++◌, decimal}
use Rattle.request.specs.declared.answers.Refusal.{Refusal}
use Rattle.request.specs.declared.answers.Refusal.TheVariants.{NotARequest, TooLarge, Unsound, Circular, NotOneItem, NotOffered}
use Rattle.request.specs.declared.answers.Answer.{Answer}
use Rattle.request.specs.declared.answers.Answer.TheVariants.{Refused, Complete, Prefix, Wrong, Found, NotThere, Fits}
use Rattle.request.specs.declared.answers.Numbers.{Numbers}
use Rattle.request.specs.declared.answers.Numbers.TheVariants.{One, Two, Three}

abbrev pub refusal_number : Refusal → ℕ
refusal_number NotARequest = 1
refusal_number TooLarge = 2
refusal_number Unsound = 3
refusal_number Circular = 4
refusal_number NotOneItem = 5
refusal_number NotOffered = 6

-- an answer's number, and then its values
abbrev pub numbers : Answer → List ℕ
numbers (Refused refusal place) = 0 ∷ refusal_number refusal ∷ place ∷ []
numbers Complete = 1 ∷ []
numbers Prefix = 2 ∷ []
numbers (Wrong place) = 3 ∷ place ∷ []
numbers (Found from size) = 4 ∷ from ∷ size ∷ []
numbers NotThere = 5 ∷ []
numbers (Fits fit) = 6 ∷ cond fit 1 0 ∷ []

abbrev pub listed : Numbers → List ℕ
listed (One a) = a ∷ []
listed (Two a b) = a ∷ b ∷ []
listed (Three a b c) = a ∷ b ∷ c ∷ []

-- numbers in decimal, a space between two
abbrev pub line : List ℕ → List ℕ
line [] = []
line (n ∷ []) = decimal n
line (n ∷ (m ∷ ns)) = decimal n ++ (32 ∷ line (m ∷ ns))
