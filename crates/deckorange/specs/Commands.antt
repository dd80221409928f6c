-- What one argument asks for.
use Rattle.std.specs.Prelude.{◌≡◌, Ok, Err, string_bytes, codes, Result, String, ◌≢◌, slice_index}
use Rattle.std.specs.declared.alloc.Global.{Global}
use Rattle.deckorange.specs.declared.command.Command.{Command}
use Rattle.deckorange.specs.declared.command.Command.TheVariants.{Help, AnswerInput, AnswerFile}
use Rattle.deckorange.specs.declared.fault.Fault.{Fault}
use Rattle.deckorange.specs.declared.fault.Fault.TheVariants.{UnknownOption}

-- 45 is the dash
abbrev pub Dashed : String Global → Type 0
Dashed word = slice_index (string_bytes word) 0 ≡ 45

-- a word with a dash in front is an option, and --help is the only one that is known; any other names a file
abbrev pub CommandOf : String Global → Result Command Fault → Type 0
CommandOf word (Ok Help) = string_bytes word ≡ codes "--help"
CommandOf word (Ok AnswerInput) = ⊥
CommandOf word (Ok (AnswerFile name)) = (name ≡ word) × (Dashed word → ⊥)
CommandOf word (Err fault) = (fault ≡ UnknownOption word) × Dashed word × (string_bytes word ≢ codes "--help")
