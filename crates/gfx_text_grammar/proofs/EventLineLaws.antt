-- The lines of events: what is read of one is a block with this line, and the line of one is read.
use Rattle.std.proofs.Common.{◌≡◌, ℕ, ◌<◌, ◌≤◌, ◌^◌, nat_eq, Bool, true, false, cond, List, [], ◌∷◌, ◌++◌, length, map, Some, None, refl, sym, ap, subst, ◌∙◌, arith, ◌⊎◌, inl, inr, codes, decimal}
use Rattle.std.specs.List.{AllByRecursion, join_with_byte, list_all}
use Rattle.std.proofs.lemmas.Bool.{and_parts}
use Rattle.gfx_model.specs.Events.{Event}
use Rattle.gfx_model.specs.Events.Event.{DestroyInstance, FillMemory, InitImage, SetSwapchainState, SetSemaphoreState, BeginSection, EndSection}
use Rattle.gfx_model.specs.Spelling.{HasSpelling, payload, block_bytes, type_of}
use Rattle.gfx_model.specs.Fields.{Named, named_fields}
use Rattle.gfx_script_model.specs.EventNames.{event_name}
use Rattle.gfx_script_model.specs.FieldText.{field_text, FieldsFit}
use Rattle.gfx_feature_model.specs.Listing.{event_words, event_text}
use Rattle.gfx_model.specs.Blocks.{effect, IsThread, SpellsPayload}
use Rattle.gfx_grammar.specs.Reading.{◌>>=◌}
use Rattle.gfx_grammar.proofs.NumberLaws.{bind_some}
use Rattle.gfx_grammar.specs.Framing.{Part}
use Rattle.gfx_text_grammar.specs.Words.{number_in}
use Rattle.gfx_text_grammar.specs.FieldReading.{Left, without_front, with_fields, nothing, ShowsFields}
use Rattle.gfx_text_grammar.specs.Rows.{read_event, by_name}
use Rattle.gfx_text_grammar.specs.Styles.{numbered}
use Rattle.gfx_text_grammar.specs.Lines.{or_else, block_of, skipped_kind, read_skipped, event_block, read_marker, read_named, read_threaded, read_line, HasLine}
use Rattle.gfx_text_grammar.proofs.WordLaws.{number_takes, number_again}
use Rattle.gfx_text_grammar.proofs.FieldLaws.{without_front_some, without_front-same}
use Rattle.gfx_text_grammar.proofs.EventLaws.{read_is_shown, shown_is_read}
use Rattle.gfx_text_grammar.proofs.Graphic.{are_graphic, graphic-append, decimal_graphic, field_graphic, letters_graphic}
use Rattle.gfx_text_grammar.proofs.SplitLaws.{tokens_again}
use Rattle.gfx_grammar.proofs.ByteLaws.{payload_all}
use Rattle.gfx_text_grammar.proofs.SkippedLaws.{or_else_some, made_line, of_block, not_skipped}
use Rattle.gfx_text_grammar.proofs.StyleLaws.{numbered_style, name_letters, fields_named}
use Rattle.gfx_text_grammar.proofs.SpellingLaws.{text-spelling, spelling-text}
use Rattle.gfx_script_model.specs.Names.{is_name}
use Rattle.gfx_model.specs.Limits.{max_payload}

-- ---- events

plain_fields : (fs : List Named) → with_fields numbered fs nothing ≡ ([], map (field_text decimal) fs)
plain_fields [] = refl
plain_fields (f ∷ fs) = ap (λ (z : Left). (z.0, field_text decimal f ∷ z.1)) (plain_fields fs)

event_made : (m kind t : ℕ) (name : List ℕ) (tokens : List (List ℕ)) (e : Event) (p : Part) (line : List ℕ) → 1 ≤ kind → kind ≤ 5
    → ShowsFields numbered m kind name ([], tokens) e → IsThread kind t → line ≡ join_with_byte 32 (event_words kind t e ++ tokens)
    → block_of kind (payload m t e) (effect t e) ≡ Some p → HasLine m p line
event_made m kind t name tokens e p line low high h thread same made =
    let fits = text-spelling m e h.0 in
    let texts : tokens ≡ map (field_text decimal) (named_fields m e) = ap (λ (z : Left). z.1) (h.1 ∙ plain_fields (named_fields m e)) in
    made_line m kind (payload m t e) (effect t e) p line low high (payload_all m t e fits) (λ small. (
      record { type = h.4; fits = record { version = h.2; fields = fits }; thread_fits = thread; same = refl },
      same ∙ ap (λ (z : List (List ℕ)). join_with_byte 32 (event_words kind t e ++ z)) texts
          ∙ ap (λ k. join_with_byte 32 (event_words k t e ++ map (field_text decimal) (named_fields m e))) (sym h.4),
    )) made

pub marker_takes : (m : ℕ) (tokens : List (List ℕ)) (p : Part) → read_marker m tokens ≡ Some p → HasLine m p (join_with_byte 32 tokens)
unfolding read_marker
marker_takes m [] p is = absurd cc
marker_takes m (name ∷ tokens) p is =
    let a = bind_some (read_event numbered m 2 name ([], tokens)) (event_block m 2 0) p is in
    let h = read_is_shown numbered numbered_style m 2 name ([], tokens) a.0 a.1 in
    event_made m 2 0 name tokens a.0 p (join_with_byte 32 (name ∷ tokens)) (omega arith) (omega arith) h (omega arith, λ z. refl)
    (ap (λ (z : List ℕ). join_with_byte 32 (z ∷ tokens)) (sym h.3)) a.2

named_takes_line : (m t : ℕ) (name : List ℕ) (tokens : List (List ℕ)) (p : Part) → t < 2 ^ 64 → read_named m t name tokens ≡ Some p
    → HasLine m p (join_with_byte 32 ((codes "thread=" ++ decimal t) ∷ name ∷ tokens))
named_takes_line m t name tokens p small is =
    elim (or_else_some _ _ p is) [
      | inl call ↦
          let a = bind_some (without_front (codes "vk") name) (λ call. read_event numbered m 4 call ([], tokens) >>= event_block m 4 t) p call in
          let b = bind_some (read_event numbered m 4 a.0 ([], tokens)) (event_block m 4 t) p a.2 in
          let h = read_is_shown numbered numbered_style m 4 a.0 ([], tokens) b.0 b.1 in
          let name_is : name ≡ codes "vk" ++ event_name b.0 = without_front_some (codes "vk") name a.0 a.1 ∙ ap (λ (z : List ℕ). codes "vk" ++ z) (sym h.3) in
          event_made m 4 t a.0 tokens b.0 p (join_with_byte 32 ((codes "thread=" ++ decimal t) ∷ name ∷ tokens)) (omega arith) (omega arith) h (small, λ z. absurd (omega arith))
          (ap (λ (z : List ℕ). join_with_byte 32 ((codes "thread=" ++ decimal t) ∷ z ∷ tokens)) name_is) b.2
      | inr meta ↦
          let b = bind_some (read_event numbered m 3 name ([], tokens)) (event_block m 3 t) p meta in
          let h = read_is_shown numbered numbered_style m 3 name ([], tokens) b.0 b.1 in
          event_made m 3 t name tokens b.0 p (join_with_byte 32 ((codes "thread=" ++ decimal t) ∷ name ∷ tokens)) (omega arith) (omega arith) h (small, λ z. absurd (omega arith))
          (ap (λ (z : List ℕ). join_with_byte 32 ((codes "thread=" ++ decimal t) ∷ z ∷ tokens)) (sym h.3)) b.2
    ]

pub threaded_takes : (m : ℕ) (tokens : List (List ℕ)) (p : Part) → read_threaded m tokens ≡ Some p → HasLine m p (join_with_byte 32 tokens)
unfolding read_threaded
threaded_takes m [] p is = absurd cc
threaded_takes m (thread ∷ []) p is = absurd cc
threaded_takes m (thread ∷ name ∷ tokens) p is =
    let b = bind_some (without_front (codes "thread=") thread >>= number_in (2 ^ 64)) (λ t. read_named m t name tokens) p is in
    let a = bind_some (without_front (codes "thread=") thread) (number_in (2 ^ 64)) b.0 b.1 in
    let n = number_takes (2 ^ 64) a.0 b.0 (omega arith) a.2 in
    let thread_is : thread ≡ codes "thread=" ++ decimal b.0 = without_front_some (codes "thread=") thread a.0 a.1 ∙ ap (λ (z : List ℕ). codes "thread=" ++ z) n.0 in
    subst (λ (z : List ℕ). HasLine m p (join_with_byte 32 (z ∷ name ∷ tokens))) (sym thread_is) (named_takes_line m b.0 name tokens p n.1 b.2)

-- ---- tokens of an event

name_graphic : (e : Event) → are_graphic (event_name e) ≡ true
unfolding event_name
name_graphic (DestroyInstance a) = refl
name_graphic _ = refl

fields_graphic : (fs : List Named) → list_all (λ f. is_name f.name) fs ≡ true → FieldsFit numbered.ids fs → AllByRecursion (λ t. are_graphic t ≡ true) (map (field_text decimal) fs)
fields_graphic [] names fits = tt
fields_graphic (f ∷ fs) names fits =
    let p = and_parts (is_name f.name) (list_all (λ f. is_name f.name) fs) names in
    (field_graphic numbered numbered_style f (letters_graphic f.name (name_letters f.name p.0)) fits.0, fields_graphic fs p.1 fits.1)

pub event_tokens : (m t : ℕ) (e : Event) → FieldsFit numbered.ids (named_fields m e) → AllByRecursion (λ t. are_graphic t ≡ true) (map (field_text decimal) (named_fields m e))
event_tokens m t e fits = fields_graphic (named_fields m e) (fields_named m e) fits

-- ---- the line of an event is read

marker_first : (e : Event) → type_of e ≡ 2 → skipped_kind (event_name e) ≡ None
unfolding event_name type_of
marker_first (BeginSection frame) is = refl
marker_first (EndSection frame) is = refl
marker_first _ is = absurd (omega (arith, is))

thread_first : (t : ℕ) → skipped_kind (codes "thread=" ++ decimal t) ≡ None
thread_first t = refl

not_marker : (m t : ℕ) (rest : List (List ℕ)) → read_marker m ((codes "thread=" ++ decimal t) ∷ rest) ≡ None
unfolding read_marker read_event by_name
not_marker m t rest = refl

meta_name : (e : Event) → type_of e ≡ 3 → without_front (codes "vk") (event_name e) ≡ None
unfolding event_name type_of
meta_name (FillMemory a b c) is = refl
meta_name (InitImage a b c) is = refl
meta_name (SetSwapchainState a b) is = refl
meta_name (SetSemaphoreState a b) is = refl
meta_name _ is = absurd (omega (arith, is))

-- the fields of an event that has a spelling are read
fields_again : (m kind : ℕ) (e : Event) → HasSpelling m e → type_of e ≡ kind → read_event numbered m kind (event_name e) ([], map (field_text decimal) (named_fields m e)) ≡ Some e
fields_again m kind e h is =
    ap (λ (z : Left). read_event numbered m kind (event_name e) z) (sym (plain_fields (named_fields m e)))
    ∙ ap (λ k. read_event numbered m k (event_name e) (with_fields numbered (named_fields m e) nothing)) (sym is)
    ∙ shown_is_read numbered numbered_style m e h.version (spelling-text m e h.fields)

-- what is made of an event of this type
abbrev made_part : ℕ → ℕ → ℕ → Event → Part
made_part m kind t e = record { bytes = block_bytes kind (payload m t e); content = effect t e }

abbrev pub event_fields : ℕ → Event → List (List ℕ)
event_fields m e = map (field_text decimal) (named_fields m e)

read_tokens : (m : ℕ) (t : List ℕ) (ts : List (List ℕ)) → AllByRecursion (λ u. are_graphic u ≡ true) (t ∷ ts)
    → read_line m (join_with_byte 32 (t ∷ ts)) ≡ or_else (read_skipped (t ∷ ts)) (or_else (read_marker m (t ∷ ts)) (read_threaded m (t ∷ ts)))
unfolding read_line
read_tokens m t ts shows = ap (λ (z : List (List ℕ)). or_else (read_skipped z) (or_else (read_marker m z) (read_threaded m z))) (tokens_again t ts shows)

marker_line : (m : ℕ) (e : Event) → HasSpelling m e → type_of e ≡ 2 → length (payload m 0 e) ≤ max_payload
    → read_line m (join_with_byte 32 (event_name e ∷ event_fields m e)) ≡ Some (made_part m 2 0 e)
unfolding read_marker
marker_line m e h is small =
    let name = event_name e in
    let fields = event_fields m e in
    let made : read_marker m (name ∷ fields) ≡ Some (made_part m 2 0 e) =
    ap (λ o. o >>= event_block m 2 0) (fields_again m 2 e h is) ∙ of_block 2 (payload m 0 e) (effect 0 e) small in
    read_tokens m name fields (name_graphic e, event_tokens m 0 e (spelling-text m e h.fields))
    ∙ ap (λ o. or_else o (or_else (read_marker m (name ∷ fields)) (read_threaded m (name ∷ fields)))) (not_skipped name fields (marker_first e is))
    ∙ ap (λ o. or_else o (read_threaded m (name ∷ fields))) made

threaded_line : (m t : ℕ) (name : List ℕ) (e : Event) (p : Part) → HasSpelling m e → t < 2 ^ 64 → are_graphic name ≡ true
    → read_named m t name (event_fields m e) ≡ Some p
    → read_line m (join_with_byte 32 ((codes "thread=" ++ decimal t) ∷ name ∷ event_fields m e)) ≡ Some p
unfolding read_threaded
threaded_line m t name e p h small shows made =
    let thread = codes "thread=" ++ decimal t in
    let fields = event_fields m e in
    let read : read_threaded m (thread ∷ name ∷ fields) ≡ Some p =
    ap (λ o. o >>= number_in (2 ^ 64) >>= λ t. read_named m t name fields) (without_front-same (codes "thread=") (decimal t))
    ∙ ap (λ o. o >>= λ t. read_named m t name fields) (number_again (2 ^ 64) t (omega arith) small) ∙ made in
    read_tokens m thread (name ∷ fields) (graphic-append (codes "thread=") (decimal t) refl (decimal_graphic t small), (shows, event_tokens m t e (spelling-text m e h.fields)))
    ∙ ap (λ o. or_else o (or_else (read_marker m (thread ∷ name ∷ fields)) (read_threaded m (thread ∷ name ∷ fields)))) (not_skipped thread (name ∷ fields) (thread_first t))
    ∙ ap (λ o. or_else o (read_threaded m (thread ∷ name ∷ fields))) (not_marker m t (name ∷ fields))
    ∙ read

call_line : (m t : ℕ) (e : Event) → HasSpelling m e → t < 2 ^ 64 → type_of e ≡ 4 → length (payload m t e) ≤ max_payload
    → read_line m (join_with_byte 32 ((codes "thread=" ++ decimal t) ∷ (codes "vk" ++ event_name e) ∷ event_fields m e)) ≡ Some (made_part m 4 t e)
call_line m t e h small is few =
    let name = codes "vk" ++ event_name e in
    let fields = event_fields m e in
    threaded_line m t name e (made_part m 4 t e) h small (graphic-append (codes "vk") (event_name e) refl (name_graphic e))
    (ap (λ o. or_else (o >>= λ call. read_event numbered m 4 call ([], fields) >>= event_block m 4 t) (read_event numbered m 3 name ([], fields) >>= event_block m 3 t)) (without_front-same (codes "vk") (event_name e))
    ∙ ap (λ o. or_else (o >>= event_block m 4 t) (read_event numbered m 3 name ([], fields) >>= event_block m 3 t)) (fields_again m 4 e h is)
    ∙ ap (λ o. or_else o (read_event numbered m 3 name ([], fields) >>= event_block m 3 t)) (of_block 4 (payload m t e) (effect t e) few))

meta_line : (m t : ℕ) (e : Event) → HasSpelling m e → t < 2 ^ 64 → type_of e ≡ 3 → length (payload m t e) ≤ max_payload
    → read_line m (join_with_byte 32 ((codes "thread=" ++ decimal t) ∷ event_name e ∷ event_fields m e)) ≡ Some (made_part m 3 t e)
meta_line m t e h small is few =
    let name = event_name e in
    let fields = event_fields m e in
    threaded_line m t name e (made_part m 3 t e) h small (name_graphic e)
    (ap (λ o. or_else (o >>= λ call. read_event numbered m 4 call ([], fields) >>= event_block m 4 t) (read_event numbered m 3 name ([], fields) >>= event_block m 3 t)) (meta_name e is)
    ∙ ap (λ o. o >>= event_block m 3 t) (fields_again m 3 e h is)
    ∙ of_block 3 (payload m t e) (effect t e) few)

-- an event is a marker, a metadata or a call
types : (e : Event) → (type_of e ≡ 2) ⊎ ((type_of e ≡ 3) ⊎ (type_of e ≡ 4))
unfolding type_of
types (FillMemory a b c) = inr (inl refl)
types (InitImage a b c) = inr (inl refl)
types (SetSwapchainState a b) = inr (inl refl)
types (SetSemaphoreState a b) = inr (inl refl)
types (BeginSection a) = inl refl
types (EndSection a) = inl refl
types _ = inr (inr refl)

pub event_line : (m kind t : ℕ) (load : List ℕ) (e : Event) → SpellsPayload m kind load t e → length load ≤ max_payload
    → read_line m (event_text m t e) ≡ Some (record { bytes = block_bytes kind load; content = effect t e })
event_line m kind t load e s small =
    let few : length (payload m t e) ≤ max_payload = subst (λ (z : List ℕ). length z ≤ max_payload) s.same small in
    let words = λ (k : ℕ). join_with_byte 32 (event_words k t e ++ event_fields m e) in
    let done : (k : ℕ) → type_of e ≡ k → read_line m (words k) ≡ Some (made_part m k t e) → read_line m (event_text m t e) ≡ Some (record { bytes = block_bytes kind load; content = effect t e }) =
    λ k is q.
    ap (λ n. read_line m (words n)) is ∙ q ∙ ap (λ n. Some (made_part m n t e)) (sym is ∙ s.type)
    ∙ ap (λ (z : List ℕ). Some (record { bytes = block_bytes kind z; content = effect t e })) (sym s.same) in
    elim (types e) [
      | inl two ↦
          let zero_thread : t ≡ 0 = s.thread_fits.1 (sym s.type ∙ two) in
          done 2 two (subst (λ n. read_line m (join_with_byte 32 (event_name e ∷ event_fields m e)) ≡ Some (made_part m 2 n e)) (sym zero_thread)
          (marker_line m e s.fits two (subst (λ n. length (payload m n e) ≤ max_payload) zero_thread few)))
      | inr (inl three) ↦ done 3 three (meta_line m t e s.fits s.thread_fits.0 three few)
      | inr (inr four) ↦ done 4 four (call_line m t e s.fits s.thread_fits.0 four few)
    ]

-- ---- and has no line feed

pub words_graphic : (kind t : ℕ) (e : Event) (fields : List (List ℕ)) → t < 2 ^ 64 → AllByRecursion (λ u. are_graphic u ≡ true) fields
    → AllByRecursion (λ u. are_graphic u ≡ true) (event_words kind t e ++ fields)
words_graphic kind t e fields small h = by (nat_eq kind 2) (nat_eq kind 4)
  where
    by : (a b : Bool) → AllByRecursion (λ u. are_graphic u ≡ true)
        (cond a (event_name e ∷ []) ((codes "thread=" ++ decimal t) ∷ cond b (codes "vk" ++ event_name e) (event_name e) ∷ []) ++ fields)
    by true b = (name_graphic e, h)
    by false true = (graphic-append (codes "thread=") (decimal t) refl (decimal_graphic t small), (graphic-append (codes "vk") (event_name e) refl (name_graphic e), h))
    by false false = (graphic-append (codes "thread=") (decimal t) refl (decimal_graphic t small), (name_graphic e, h))
