-- The kinds of faults of scripts.
use Rattle.std.specs.Prelude.{ℕ, List, codes}
use Rattle.gfx_script_model.specs.Scripts.{Kind, bad_byte, line_too_long, too_many, bad_line, structure, name_unknown, name_taken}
use Rattle.gfx_script.specs.declared.kind.ScriptKind.{ScriptKind}
use Rattle.gfx_script.specs.declared.kind.ScriptKind.TheVariants.{BadByte, LineTooLong, TooMany, BadLine, Structure, NameUnknown, NameTaken}

-- the kind in the definitions
abbrev pub kind_of : ScriptKind → Kind
kind_of BadByte = bad_byte
kind_of LineTooLong = line_too_long
kind_of TooMany = too_many
kind_of BadLine = bad_line
kind_of Structure = structure
kind_of NameUnknown = name_unknown
kind_of NameTaken = name_taken

-- the printed name of a kind
abbrev pub kind_name : ScriptKind → List ℕ
kind_name BadByte = codes "BadByte"
kind_name LineTooLong = codes "LineTooLong"
kind_name TooMany = codes "TooMany"
kind_name BadLine = codes "BadLine"
kind_name Structure = codes "Structure"
kind_name NameUnknown = codes "NameUnknown"
kind_name NameTaken = codes "NameTaken"
