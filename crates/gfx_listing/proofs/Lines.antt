-- The lines of effects, as they are written.
use Rattle.std.proofs.Common.{◌≡◌, ℕ, ◌∷◌, ◌++◌, List, [], refl, sym, ap, ◌∙◌, append-nil, append_assoc, ◌+◌, length, drop, arith, length-drop}
use Rattle.std.proofs.lemmas.List.{take_all}
use Rattle.std.specs.List.{join_with_byte}
use Rattle.std.specs.Prelude.{map, codes, decimal}
use Rattle.gfx_types.specs.declared.call.Call.{Call}
use Rattle.gfx_types.specs.declared.effect.Meta.{Meta}
use Rattle.gfx_model.specs.Events.{Event, event_of_call, event_of_meta}
use Rattle.gfx_model.specs.Fields.{Named, named_fields}
use Rattle.gfx_model.specs.Blocks.{size_field, payload_field}
use Rattle.gfx_model.specs.Spelling.{type_of}
use Rattle.gfx_script_model.specs.EventNames.{event_name}
use Rattle.gfx_script_model.specs.FieldText.{field_text}
use Rattle.gfx_feature_model.specs.Listing.{event_words, event_text}
use Rattle.gfx_text_grammar.specs.FieldReading.{with_fields, nothing}
use Rattle.gfx_text_grammar.specs.Styles.{numbered}
use Rattle.gfx_text_writer.specs.Shown.{behind_spaces}

-- words with a space between each two: the first, and each other one behind a space
pub spaced : (word : List ℕ) (words : List (List ℕ)) → join_with_byte 32 (word ∷ words) ≡ word ++ behind_spaces words
spaced word [] = sym (append-nil word)
spaced word (w ∷ words) = ap (λ (z : List ℕ). word ++ (32 ∷ z)) (spaced w words)

-- in a listing no field is written apart
pub all_stand : (fs : List Named) → (with_fields numbered fs nothing).1 ≡ map (field_text decimal) fs
all_stand [] = refl
all_stand (f ∷ fs) = ap (λ (z : List (List ℕ)). field_text decimal f ∷ z) (all_stand fs)

-- what follows the thread
abbrev pub fields_behind : ℕ → Event → List ℕ
fields_behind m e = behind_spaces (with_fields numbered (named_fields m e) nothing).1

words_line : (thread word : List ℕ) (m : ℕ) (e : Event) → join_with_byte 32 (thread ∷ word ∷ map (field_text decimal) (named_fields m e))
    ≡ thread ++ (32 ∷ (word ++ fields_behind m e))
words_line thread word m e =
    spaced thread (word ∷ map (field_text decimal) (named_fields m e))
    ∙ ap (λ fs. thread ++ (32 ∷ (word ++ behind_spaces fs))) (sym (all_stand (named_fields m e)))

call_kind : (call : Call) → type_of (event_of_call call) ≡ 4
unfolding type_of
call_kind (Call.CreateInstance instance api) = refl
call_kind _ = refl

meta_kind : (meta : Meta) → type_of (event_of_meta meta) ≡ 3
unfolding type_of
meta_kind (Meta.FillMemory memory offset bytes) = refl
meta_kind _ = refl

call_line : (m t : ℕ) (call : Call) → event_text m t (event_of_call call)
    ≡ (codes "thread=" ++ decimal t) ++ (32 ∷ ((codes "vk" ++ event_name (event_of_call call)) ++ fields_behind m (event_of_call call)))
call_line m t call =
    ap (λ k. join_with_byte 32 (event_words k t (event_of_call call) ++ map (field_text decimal) (named_fields m (event_of_call call)))) (call_kind call)
    ∙ words_line (codes "thread=" ++ decimal t) (codes "vk" ++ event_name (event_of_call call)) m (event_of_call call)

meta_line : (m t : ℕ) (meta : Meta) → event_text m t (event_of_meta meta)
    ≡ (codes "thread=" ++ decimal t) ++ (32 ∷ (event_name (event_of_meta meta) ++ fields_behind m (event_of_meta meta)))
meta_line m t meta =
    ap (λ k. join_with_byte 32 (event_words k t (event_of_meta meta) ++ map (field_text decimal) (named_fields m (event_of_meta meta)))) (meta_kind meta)
    ∙ words_line (codes "thread=" ++ decimal t) (event_name (event_of_meta meta)) m (event_of_meta meta)

-- the thread, a space, a word and the fields, as they are appended one after the other
grown : (old thread word fields : List ℕ) → ((old ++ thread) ++ (32 ∷ word)) ++ fields ≡ old ++ (thread ++ (32 ∷ (word ++ fields)))
grown old thread word fields = append_assoc (old ++ thread) (32 ∷ word) fields ∙ append_assoc old thread (32 ∷ (word ++ fields))

pub call_grown : (m t : ℕ) (call : Call) (old a b c d : List ℕ) → a ≡ old ++ (codes "thread=" ++ decimal t) → b ≡ a ++ codes " vk" → c ≡ b ++ event_name (event_of_call call)
    → d ≡ c ++ fields_behind m (event_of_call call) → d ≡ old ++ event_text m t (event_of_call call)
call_grown m t call old a b c d first space word fields =
    let name = event_name (event_of_call call) in
    let thread = codes "thread=" ++ decimal t in
    fields
    ∙ ap (λ (z : List ℕ). z ++ fields_behind m (event_of_call call)) (word ∙ ap (λ (z : List ℕ). z ++ name) (space ∙ ap (λ (z : List ℕ). z ++ codes " vk") first)
    ∙ append_assoc (old ++ thread) (codes " vk") name)
    ∙ grown old thread (codes "vk" ++ name) (fields_behind m (event_of_call call))
    ∙ ap (λ (z : List ℕ). old ++ z) (sym (call_line m t call))

pub meta_grown : (m t : ℕ) (meta : Meta) (old a b c d : List ℕ) → a ≡ old ++ (codes "thread=" ++ decimal t) → b ≡ a ++ 32 ∷ [] → c ≡ b ++ event_name (event_of_meta meta)
    → d ≡ c ++ fields_behind m (event_of_meta meta) → d ≡ old ++ event_text m t (event_of_meta meta)
meta_grown m t meta old a b c d first space word fields =
    let name = event_name (event_of_meta meta) in
    let thread = codes "thread=" ++ decimal t in
    fields
    ∙ ap (λ (z : List ℕ). z ++ fields_behind m (event_of_meta meta)) (word ∙ ap (λ (z : List ℕ). z ++ name) (space ∙ ap (λ (z : List ℕ). z ++ 32 ∷ []) first)
    ∙ append_assoc (old ++ thread) (32 ∷ []) name)
    ∙ grown old thread name (fields_behind m (event_of_meta meta))
    ∙ ap (λ (z : List ℕ). old ++ z) (sym (meta_line m t meta))

-- the payload is all that follows the head
pub whole_payload : (bytes : List ℕ) → length bytes ≡ 12 + size_field bytes → payload_field bytes ≡ drop 12 bytes
whole_payload bytes long = take_all (size_field bytes) (drop 12 bytes) (omega (arith, long, length-drop 12 bytes))
