-- What is spelled is bytes: each number, each field, the payload of an event and its block.
use Rattle.std.proofs.Common.{ℕ, zero, suc, ◌<◌, nat_eq, Bool, true, false, cond, List, [], ◌∷◌, ◌++◌, length, arith}
use Rattle.std.specs.Int.{w32, w64, to_le_bytes}
use Rattle.std.specs.List.{AllByRecursion}
use Rattle.gfx_model.specs.Events.{Event}
use Rattle.gfx_model.specs.Spelling.{Field, id, u64, u32, raw, field_bytes, FieldFits, fields_of, spelling, payload, block_bytes, type_of, id_of}
use Rattle.gfx_grammar.specs.Reads.{AreBytes, Fits, text_of}
use Rattle.gfx_model.proofs.Lists.{all_append}

-- each item is a byte
abbrev pub AllBytes : List ℕ → Type 0
AllBytes bytes = AllByRecursion (λ b. b < 256) bytes

pub both_bytes : (a b : List ℕ) → AllBytes a → AllBytes b → AllBytes (a ++ b)
both_bytes a b = all_append (λ b. b < 256) a b

pub are_bytes : (bytes : List ℕ) → AllBytes bytes → AreBytes bytes
are_bytes [] h i = omega arith
are_bytes (b ∷ bytes) h zero = h.0
are_bytes (b ∷ bytes) h (suc i) = are_bytes bytes h.1 i

pub le32_bytes : (n : ℕ) → AllBytes (to_le_bytes w32 n)
le32_bytes n = (omega arith, (omega arith, (omega arith, (omega arith, tt))))

pub le64_bytes : (n : ℕ) → AllBytes (to_le_bytes w64 n)
le64_bytes n = (omega arith, (omega arith, (omega arith, (omega arith, (omega arith, (omega arith, (omega arith, (omega arith, tt))))))))

field_all : (f : Field) → FieldFits f → AllBytes (field_bytes f)
field_all (id n) h = le64_bytes n
field_all (u64 n) h = le64_bytes n
field_all (u32 n) h = le32_bytes n
field_all (raw bytes) h = both_bytes (to_le_bytes w64 (length bytes)) bytes (le64_bytes (length bytes)) h.1

fields_all : (fs : List Field) → Fits fs → AllBytes (text_of fs)
fields_all [] h = tt
fields_all (f ∷ fs) h = both_bytes (field_bytes f) (text_of fs) (field_all f h.0) (fields_all fs h.1)

-- the payload of an event that has a spelling
pub payload_all : (m thread : ℕ) (e : Event) → Fits (fields_of m e) → AllBytes (payload m thread e)
unfolding payload spelling
payload_all m thread e h =
    both_bytes (to_le_bytes w32 (id_of e) ++ cond (nat_eq (type_of e) 2) [] (to_le_bytes w64 thread)) (text_of (fields_of m e))
    (both_bytes (to_le_bytes w32 (id_of e)) (cond (nat_eq (type_of e) 2) [] (to_le_bytes w64 thread)) (le32_bytes (id_of e)) (by (nat_eq (type_of e) 2)))
    (fields_all (fields_of m e) h)
  where
    by : (b : Bool) → AllBytes (cond b [] (to_le_bytes w64 thread))
    by true = tt
    by false = le64_bytes thread

pub block_all : (kind : ℕ) (load : List ℕ) → AllBytes load → AllBytes (block_bytes kind load)
block_all kind load h =
    both_bytes (to_le_bytes w64 (length load) ++ to_le_bytes w32 kind) load
    (both_bytes (to_le_bytes w64 (length load)) (to_le_bytes w32 kind) (le64_bytes (length load)) (le32_bytes kind)) h
