-- The lines that the program prints.
use Rattle.std.specs.Prelude.{ℕ, List, [], ◌++◌, codes}
use Rattle.std.specs.Fmt.{decimal}
use Rattle.gfx_types.specs.Names.{fault_number, fault_name}
use Rattle.gfx_types.specs.declared.names.Fault.{Fault}
use Rattle.gfx_script.specs.Kinds.{kind_name}
use Rattle.gfx_script.specs.declared.kind.ScriptKind.{ScriptKind}
use Rattle.gfx_model.specs.Blocks.{End, minor_of}
use Rattle.gfx_model.specs.Blocks.End.{clean, bad}
use Rattle.gfx_model.specs.Text.{counts_text, line}
use Rattle.gfx_grammar.specs.Splitting.{blocks_of}

-- a text that is written at the clean end alone
abbrev pub at_clean : End → List ℕ → List ℕ
at_clean clean text = text
at_clean (bad fault block offset) text = []

-- what `info` prints on a file
abbrev pub info_text : List ℕ → List ℕ
info_text bytes = at_clean (blocks_of bytes).end (counts_text (minor_of bytes) (blocks_of bytes).items)

-- what is noted where the words name no command
abbrev pub usage_line : List ℕ
usage_line = line (codes "usage: gfxcap info; replay [--pixels] [--frames A-B]; trim A-B; capture [--gather] [--frames A-B]; make N; upgrade; lean A-B; list; unlist; digests")

-- what is noted where a read failed
abbrev pub read_fault_line : List ℕ
read_fault_line = line (codes "read fault")

-- the first line of a text with which it is no listing
unfoldable pub bad_listing_line : ℕ → List ℕ
bad_listing_line number = line (codes "bad listing line " ++ decimal number)

-- which frames a file has
unfoldable pub no_such_frame_line : ℕ → ℕ → List ℕ
no_such_frame_line first last = line (codes "no such frame: the file has " ++ decimal first ++ codes " to " ++ decimal last)

-- the first line of a script with a fault
unfoldable pub bad_script_line : ℕ → ScriptKind → List ℕ
bad_script_line number kind = line (codes "bad script line " ++ decimal number ++ codes ": " ++ kind_name kind)

-- the line of a script whose call was refused, and why, behind so many blocks
unfoldable pub refused_line : ℕ → Fault → ℕ → List ℕ
refused_line number fault at =
    line (codes "refused line " ++ decimal number ++ codes ": " ++ decimal (fault_number fault) ++ codes " " ++ fault_name fault
    ++ codes " after " ++ decimal at ++ codes " blocks")

-- the length of a log, and of the block for which it has no room
unfoldable pub log_full_line : ℕ → ℕ → List ℕ
log_full_line length wanted = line (codes "log full: " ++ decimal length ++ codes " and " ++ decimal wanted)

-- what `--version` prints
abbrev pub version_line : List ℕ
version_line = line (codes "gfxcap 0.1.0")

-- what `--help` prints
abbrev pub help_text : List ℕ
help_text =
    usage_line
    ++ line (codes "A capture is read from standard input, and frames A to B are those with these numbers.")
    ++ line (codes "info describes it, replay writes a line with the digest of each frame, with --pixels its rows too,")
    ++ line (codes "and trim writes the capture of these frames alone, lean without what they never need. make tries the")
    ++ line (codes "program on a capture of N frames.")
    ++ line (codes "upgrade writes the capture in version 2. list writes it as text, a line for each block, and unlist")
    ++ line (codes "makes the capture of such a text again. digests writes what replay does, on all processors.")
    ++ line (codes "capture runs the script that it reads on threads, and writes the capture of their calls, with --gather")
    ++ line (codes "the writes of a thread as fills before its next submit, unmap or free.")
    ++ line (codes "--help and --version alone write this text and the version.")
