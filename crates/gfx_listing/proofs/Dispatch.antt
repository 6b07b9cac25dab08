-- Which part of the grammar reads a line: its first token says it.
use Rattle.std.proofs.Common.{◌≡◌, ℕ, ◌<◌, ◌≤◌, ◌^◌, nat_eq, Bool, true, false, cond, List, [], ◌∷◌, ◌++◌, length, map, Option, Some, None, refl, sym, ap, ◌∙◌, arith, ◌⊎◌, inl, inr, codes, decimal}
use Rattle.std.proofs.lemmas.Bool.{cond-false}
use Rattle.std.proofs.lemmas.List.{length-map}
use Rattle.gfx_model.specs.Checks.{same_list}
use Rattle.gfx_model.specs.Events.{Event, event_of}
use Rattle.gfx_model.specs.Events.Event.{QueuePresentKHR, BeginSection, EndSection}
use Rattle.gfx_model.specs.Blocks.{skipped}
use Rattle.gfx_model.specs.Fields.{named_fields, named_presents, one_present}
use Rattle.gfx_types.specs.declared.effect.Effect.TheVariants.{Marker}
use Rattle.gfx_types.specs.declared.lists.Present.{Present}
use Rattle.gfx_grammar.specs.Framing.{Part}
use Rattle.gfx_grammar.specs.Reading.{◌>>=◌}
use Rattle.gfx_grammar.specs.Rows.{with1}
use Rattle.gfx_grammar.proofs.NumberLaws.{bind_some, some_is}
use Rattle.gfx_script_model.specs.FieldText.{field_text}
use Rattle.gfx_text_grammar.specs.FieldReading.{Left, without_front, named_value, read_field}
use Rattle.gfx_text_grammar.specs.Lines.{or_else, block_of, skipped_kind, skipped_payload, read_skipped, event_block, read_marker, read_named, read_threaded, read_line}
use Rattle.gfx_text_grammar.specs.Reading.{read_u64, read_raw}
use Rattle.gfx_text_grammar.specs.Rows.{by_name, read_event, exactly, wide_field, if_nothing_left}
use Rattle.gfx_text_grammar.specs.Splits.{tokens_of}
use Rattle.gfx_text_grammar.specs.Styles.{numbered}
use Rattle.gfx_text_grammar.specs.Words.{number_in, raw_in}
use Rattle.gfx_text_grammar.proofs.EventLaws.{read_is_shown}
use Rattle.gfx_text_grammar.proofs.FieldLaws.{without_front_some}
use Rattle.gfx_text_grammar.proofs.Lists.{same_list-true}
use Rattle.gfx_text_grammar.proofs.SkippedLaws.{or_else_some, not_skipped}
use Rattle.gfx_text_grammar.proofs.StyleLaws.{numbered_style}
use Rattle.gfx_text_grammar.proofs.WordLaws.{number_takes}
use Rattle.gfx_listing.specs.Lines.{marker_name, begins_section, part_of_tokens}
use Rattle.gfx_listing.proofs.Lines.{all_stand}
use Rattle.gfx_listing.proofs.Cuts.{named_is, whole_u64, whole_raw}

or_none : {X : Type 0} (o : Option X) → or_else o None ≡ o
or_none None = refl
or_none (Some x) = refl

-- ---- skipped blocks

skipped_named : (name : List ℕ) (kind : ℕ) → skipped_kind name ≡ Some kind → (name ≡ codes "frame") ⊎ ((name ≡ codes "annotation") ⊎ (name ≡ codes "message"))
skipped_named name kind is = by (same_list name (codes "frame")) refl (same_list name (codes "annotation")) refl (same_list name (codes "message")) refl is
  where
    by : (a : Bool) → same_list name (codes "frame") ≡ a → (b : Bool) → same_list name (codes "annotation") ≡ b → (c : Bool) → same_list name (codes "message") ≡ c
        → cond a (Some 1) (cond b (Some 5) (cond c (Some 3) None)) ≡ Some kind → (name ≡ codes "frame") ⊎ ((name ≡ codes "annotation") ⊎ (name ≡ codes "message"))
    by true p b q c r h = inl (same_list-true name (codes "frame") p)
    by false p true q c r h = inr (inl (same_list-true name (codes "annotation") q))
    by false p false q true r h = inr (inr (same_list-true name (codes "message") r))
    by false p false q false r h = absurd cc

-- what follows a skipped block in the order of the grammar
abbrev others : ℕ → List ℕ → List (List ℕ) → Option Part
others m name ts = or_else (read_marker m (name ∷ ts)) (read_threaded m (name ∷ ts))

frame_alone : (m : ℕ) (ts : List (List ℕ)) → others m (codes "frame") ts ≡ None
unfolding read_marker read_event by_name read_threaded
frame_alone m [] = refl
frame_alone m (t ∷ ts) = refl

annotation_alone : (m : ℕ) (ts : List (List ℕ)) → others m (codes "annotation") ts ≡ None
unfolding read_marker read_event by_name read_threaded
annotation_alone m [] = refl
annotation_alone m (t ∷ ts) = refl

message_alone : (m : ℕ) (ts : List (List ℕ)) → others m (codes "message") ts ≡ None
unfolding read_marker read_event by_name read_threaded
message_alone m [] = refl
message_alone m (t ∷ ts) = refl

pub skipped_first : (m kind : ℕ) (name : List ℕ) (ts : List (List ℕ)) → skipped_kind name ≡ Some kind → part_of_tokens m (name ∷ ts) ≡ read_skipped (name ∷ ts)
skipped_first m kind name ts is =
    let alone : others m name ts ≡ None = elim (skipped_named name kind is) [
      | inl h ↦ ap (λ n. others m n ts) h ∙ frame_alone m ts
      | inr (inl h) ↦ ap (λ n. others m n ts) h ∙ annotation_alone m ts
      | inr (inr h) ↦ ap (λ n. others m n ts) h ∙ message_alone m ts
    ] in
    ap (or_else (read_skipped (name ∷ ts))) alone ∙ or_none (read_skipped (name ∷ ts))

-- ---- markers

begin_no_thread : (m : ℕ) (ts : List (List ℕ)) → read_threaded m (codes "begin" ∷ ts) ≡ None
unfolding read_threaded
begin_no_thread m [] = refl
begin_no_thread m (t ∷ ts) = refl

end_no_thread : (m : ℕ) (ts : List (List ℕ)) → read_threaded m (codes "end" ∷ ts) ≡ None
unfolding read_threaded
end_no_thread m [] = refl
end_no_thread m (t ∷ ts) = refl

marker_alone : (m : ℕ) (begin : Bool) (ts : List (List ℕ)) → part_of_tokens m (marker_name begin ∷ ts) ≡ read_marker m (marker_name begin ∷ ts)
marker_alone m true ts =
    let tokens = codes "begin" ∷ ts in
    ap (λ o. or_else o (or_else (read_marker m tokens) (read_threaded m tokens))) (not_skipped (codes "begin") ts refl)
    ∙ ap (or_else (read_marker m tokens)) (begin_no_thread m ts) ∙ or_none (read_marker m tokens)
marker_alone m false ts =
    let tokens = codes "end" ∷ ts in
    ap (λ o. or_else o (or_else (read_marker m tokens) (read_threaded m tokens))) (not_skipped (codes "end") ts refl)
    ∙ ap (or_else (read_marker m tokens)) (end_no_thread m ts) ∙ or_none (read_marker m tokens)

marker_named : (name : List ℕ) (begin : Bool) → begins_section name ≡ Some begin → name ≡ marker_name begin
marker_named name begin is = by (same_list name (codes "begin")) refl (same_list name (codes "end")) refl is
  where
    by : (a : Bool) → same_list name (codes "begin") ≡ a → (b : Bool) → same_list name (codes "end") ≡ b → cond a (Some true) (cond b (Some false) None) ≡ Some begin
        → name ≡ marker_name begin
    by true p b q h = same_list-true name (codes "begin") p ∙ ap marker_name (some_is true begin h)
    by false p true q h = same_list-true name (codes "end") q ∙ ap marker_name (some_is false begin h)
    by false p false q h = absurd cc

pub marker_first : (m : ℕ) (begin : Bool) (name : List ℕ) (ts : List (List ℕ)) → begins_section name ≡ Some begin
    → part_of_tokens m (name ∷ ts) ≡ read_marker m (marker_name begin ∷ ts)
marker_first m begin name ts is = ap (λ n. part_of_tokens m (n ∷ ts)) (marker_named name begin is) ∙ marker_alone m begin ts

-- the first token is another
other_name : (name known : List ℕ) (begin : Bool) → begins_section known ≡ Some begin → begins_section name ≡ None → same_list known name ≡ false
other_name name known begin is none = by (same_list known name) refl
  where
    by : (b : Bool) → same_list known name ≡ b → b ≡ false
    by false e = refl
    by true e = absurd (let no : Some begin ≡ None = sym is ∙ ap begins_section (same_list-true known name e) ∙ none in cc)

no_marker : (m : ℕ) (name : List ℕ) (ts : List (List ℕ)) → begins_section name ≡ None → read_marker m (name ∷ ts) ≡ None
unfolding read_marker read_event by_name
no_marker m name ts none =
    let rest : Option Event = cond (same_list (codes "end") name) (exactly (with1 EndSection) (wide_field "frame") ([], ts)) None in
    ap (λ o. o >>= event_block m 2 0)
    (cond-false (same_list (codes "begin") name) (exactly (with1 BeginSection) (wide_field "frame") ([], ts)) rest (other_name name (codes "begin") true refl none)
    ∙ cond-false (same_list (codes "end") name) (exactly (with1 EndSection) (wide_field "frame") ([], ts)) None (other_name name (codes "end") false refl none))

pub threaded_last : (m : ℕ) (name : List ℕ) (ts : List (List ℕ)) → skipped_kind name ≡ None → begins_section name ≡ None
    → part_of_tokens m (name ∷ ts) ≡ read_threaded m (name ∷ ts)
threaded_last m name ts other none =
    ap (λ o. or_else o (or_else (read_marker m (name ∷ ts)) (read_threaded m (name ∷ ts)))) (not_skipped name ts other)
    ∙ ap (λ o. or_else o (read_threaded m (name ∷ ts))) (no_marker m name ts none)

-- no tokens
pub no_tokens : (m : ℕ) (ts : List (List ℕ)) → length ts < 1 → part_of_tokens m ts ≡ None
unfolding read_skipped read_marker read_threaded
no_tokens m [] none = refl
no_tokens m (t ∷ ts) none = absurd (omega arith)

-- ---- the fields of a marker

abbrev frame_of : List ℕ → Option ℕ
frame_of token = without_front (codes "frame=") token >>= number_in (2 ^ 64)

frame_read : (token : List ℕ) → named_value (codes "frame") read_u64 token ≡ frame_of token
frame_read token = named_is (codes "frame") read_u64 (number_in (2 ^ 64)) token whole_u64

abbrev marker_event : Bool → ℕ → Event
marker_event begin frame = event_of (Marker begin frame)

-- the first token is read, and these follow it
abbrev first_frame : List (List ℕ) → Option ℕ → Option (ℕ × List (List ℕ))
first_frame rest o = o >>= λ x. Some (x, rest)

abbrev only_frame : Option (ℕ × List (List ℕ)) → Option (ℕ × Left)
only_frame o = o >>= λ x. Some (x.0, ([], x.1))

-- the marker of this frame
abbrev read_frame : (ℕ → Event) → List (List ℕ) → Option ℕ → Option Event
read_frame build rest o = only_frame (first_frame rest o) >>= λ x. if_nothing_left (build x.0) x.1

-- one token is the frame of a marker
one_field : (m : ℕ) (begin : Bool) (token : List ℕ) → read_event numbered m 2 (marker_name begin) ([], token ∷ [])
    ≡ (named_value (codes "frame") read_u64 token >>= λ frame. Some (marker_event begin frame))
unfolding read_event by_name exactly read_field
one_field m true token = by (named_value (codes "frame") read_u64 token)
  where
    by : (o : Option ℕ) → read_frame BeginSection [] o ≡ (o >>= λ frame. Some (BeginSection frame))
    by None = refl
    by (Some x) = refl
one_field m false token = by (named_value (codes "frame") read_u64 token)
  where
    by : (o : Option ℕ) → read_frame EndSection [] o ≡ (o >>= λ frame. Some (EndSection frame))
    by None = refl
    by (Some x) = refl

pub marker_read : (m : ℕ) (begin : Bool) (token : List ℕ) (frame : ℕ) → frame_of token ≡ Some frame
    → read_marker m (marker_name begin ∷ token ∷ []) ≡ event_block m 2 0 (marker_event begin frame)
unfolding read_marker
marker_read m begin token frame is =
    ap (λ o. o >>= event_block m 2 0) (one_field m begin token)
    ∙ ap (λ (o : Option ℕ). (o >>= λ frame. Some (marker_event begin frame)) >>= event_block m 2 0) (frame_read token ∙ is)

pub marker_bad : (m : ℕ) (begin : Bool) (token : List ℕ) → frame_of token ≡ None → read_marker m (marker_name begin ∷ token ∷ []) ≡ None
unfolding read_marker
marker_bad m begin token none =
    ap (λ o. o >>= event_block m 2 0) (one_field m begin token)
    ∙ ap (λ (o : Option ℕ). (o >>= λ frame. Some (marker_event begin frame)) >>= event_block m 2 0) (frame_read token ∙ none)

-- ---- calls and metadata

-- no metadata begins with vk
not_meta : (m : ℕ) (call : List ℕ) (left : Left) → read_event numbered m 3 (codes "vk" ++ call) left ≡ None
unfolding read_event by_name
not_meta m call left = refl

pub call_named : (m t : ℕ) (name call : List ℕ) (ts : List (List ℕ)) → without_front (codes "vk") name ≡ Some call
    → read_named m t name ts ≡ (read_event numbered m 4 call ([], ts) >>= event_block m 4 t)
call_named m t name call ts is =
    let block = read_event numbered m 4 call ([], ts) >>= event_block m 4 t in
    ap (λ o. or_else (o >>= λ call. read_event numbered m 4 call ([], ts) >>= event_block m 4 t) (read_event numbered m 3 name ([], ts) >>= event_block m 3 t)) is
    ∙ ap (λ n. or_else block (read_event numbered m 3 n ([], ts) >>= event_block m 3 t)) (without_front_some (codes "vk") name call is)
    ∙ ap (λ o. or_else block (o >>= event_block m 3 t)) (not_meta m call ([], ts))
    ∙ or_none block

pub meta_named : (m t : ℕ) (name : List ℕ) (ts : List (List ℕ)) → without_front (codes "vk") name ≡ None
    → read_named m t name ts ≡ (read_event numbered m 3 name ([], ts) >>= event_block m 3 t)
meta_named m t name ts none =
    ap (λ o. or_else (o >>= λ call. read_event numbered m 4 call ([], ts) >>= event_block m 4 t) (read_event numbered m 3 name ([], ts) >>= event_block m 3 t)) none

-- ---- how many tokens a line has

few_presents : (m : ℕ) (ps : List Present) → length (named_presents m ps) ≤ 2
few_presents m ps = by (nat_eq m 1) ps
  where
    one : (ps : List Present) → length (one_present ps) ≤ 2
    one [] = omega arith
    one (p ∷ []) = omega arith
    one (p ∷ q ∷ ps) = omega arith

    by : (b : Bool) (ps : List Present) → length (cond b (one_present ps) (named_presents 2 ps)) ≤ 2
    by true ps = one ps
    by false ps = omega arith

few_fields : (m : ℕ) (e : Event) → length (named_fields m e) ≤ 8
few_fields m (QueuePresentKHR queue waits ps) = let few = few_presents m ps in omega (arith, few)
few_fields m _ = omega arith

-- the tokens behind the name of an event
few_read : (m kind : ℕ) (name : List ℕ) (ts : List (List ℕ)) (e : Event) → read_event numbered m kind name ([], ts) ≡ Some e → length ts ≤ 8
few_read m kind name ts e is =
    let h = read_is_shown numbered numbered_style m kind name ([], ts) e is in
    let same : ts ≡ map (field_text decimal) (named_fields m e) = ap (λ (z : Left). z.1) h.1 ∙ all_stand (named_fields m e) in
    omega (arith, ap length same, length-map (named_fields m e) (field_text decimal), few_fields m e)

skipped_few : (tokens : List (List ℕ)) (p : Part) → read_skipped tokens ≡ Some p → length tokens ≤ 18
unfolding read_skipped
skipped_few [] p is = absurd cc
skipped_few (name ∷ []) p is = absurd cc
skipped_few (name ∷ value ∷ []) p is = omega arith
skipped_few (name ∷ value ∷ t ∷ ts) p is = absurd cc

marker_few : (m : ℕ) (tokens : List (List ℕ)) (p : Part) → read_marker m tokens ≡ Some p → length tokens ≤ 18
unfolding read_marker
marker_few m [] p is = absurd cc
marker_few m (name ∷ ts) p is =
    let a = bind_some (read_event numbered m 2 name ([], ts)) (event_block m 2 0) p is in
    let few = few_read m 2 name ts a.0 a.1 in
    omega (arith, few)

named_few : (m t : ℕ) (name : List ℕ) (ts : List (List ℕ)) (p : Part) → read_named m t name ts ≡ Some p → length ts ≤ 8
named_few m t name ts p is =
    elim (or_else_some _ _ p is) [
      | inl call ↦
          let a = bind_some (without_front (codes "vk") name) (λ call. read_event numbered m 4 call ([], ts) >>= event_block m 4 t) p call in
          let b = bind_some (read_event numbered m 4 a.0 ([], ts)) (event_block m 4 t) p a.2 in
          few_read m 4 a.0 ts b.0 b.1
      | inr meta ↦
          let b = bind_some (read_event numbered m 3 name ([], ts)) (event_block m 3 t) p meta in
          few_read m 3 name ts b.0 b.1
    ]

threaded_few : (m : ℕ) (tokens : List (List ℕ)) (p : Part) → read_threaded m tokens ≡ Some p → length tokens ≤ 18
unfolding read_threaded
threaded_few m [] p is = absurd cc
threaded_few m (thread ∷ []) p is = absurd cc
threaded_few m (thread ∷ name ∷ ts) p is =
    let b = bind_some (without_front (codes "thread=") thread >>= number_in (2 ^ 64)) (λ t. read_named m t name ts) p is in
    let few = named_few m b.0 name ts p b.2 in
    omega (arith, few)

few_tokens : (m : ℕ) (tokens : List (List ℕ)) (p : Part) → part_of_tokens m tokens ≡ Some p → length tokens ≤ 18
few_tokens m tokens p is =
    elim (or_else_some _ _ p is) [
      | inl a ↦ skipped_few tokens p a
      | inr more ↦ elim (or_else_some _ _ p more) [
        | inl b ↦ marker_few m tokens p b
        | inr c ↦ threaded_few m tokens p c
      ]
    ]

-- a line with more tokens is that of no block
pub many_tokens : (m : ℕ) (line : List ℕ) → 18 < length (tokens_of line) → read_line m line ≡ None
unfolding read_line
many_tokens m line many = by (part_of_tokens m (tokens_of line)) refl
  where
    by : (o : Option Part) → part_of_tokens m (tokens_of line) ≡ o → o ≡ None
    by None e = refl
    by (Some p) e = absurd (let few = few_tokens m (tokens_of line) p e in omega (arith, few, many))

-- a line is read by its tokens
pub line_by_tokens : (m : ℕ) (line : List ℕ) (tokens : List (List ℕ)) → tokens ≡ tokens_of line → read_line m line ≡ part_of_tokens m tokens
unfolding read_line
line_by_tokens m line tokens is = ap (part_of_tokens m) (sym is)

-- ---- the tokens behind the first

-- a skipped block has one
pub skipped_fields : (name : List ℕ) (ts : List (List ℕ)) → (length ts ≡ 1 → ⊥) → read_skipped (name ∷ ts) ≡ None
unfolding read_skipped
skipped_fields name [] other = refl
skipped_fields name (t ∷ []) other = absurd (other refl)
skipped_fields name (t ∷ u ∷ us) other = refl

-- which begins so
pub skipped_is : (kind : ℕ) (name token digits : List ℕ) → skipped_kind name ≡ Some kind → without_front (codes "bytes=") token ≡ Some digits
    → read_skipped (name ∷ token ∷ []) ≡ (raw_in digits >>= λ bytes. block_of kind (skipped_payload kind bytes) skipped)
unfolding read_skipped
skipped_is kind name token digits is front =
    ap (λ o. o >>= λ kind. named_value (codes "bytes") read_raw token >>= λ bytes. block_of kind (skipped_payload kind bytes) skipped) is
    ∙ ap (λ o. o >>= λ bytes. block_of kind (skipped_payload kind bytes) skipped) (named_is (codes "bytes") read_raw raw_in token whole_raw ∙ ap (λ o. o >>= raw_in) front)

pub skipped_bad : (kind : ℕ) (name token : List ℕ) → skipped_kind name ≡ Some kind → without_front (codes "bytes=") token ≡ None → read_skipped (name ∷ token ∷ []) ≡ None
unfolding read_skipped
skipped_bad kind name token is front =
    ap (λ o. o >>= λ kind. named_value (codes "bytes") read_raw token >>= λ bytes. block_of kind (skipped_payload kind bytes) skipped) is
    ∙ ap (λ o. o >>= λ bytes. block_of kind (skipped_payload kind bytes) skipped) (named_is (codes "bytes") read_raw raw_in token whole_raw ∙ ap (λ o. o >>= raw_in) front)

-- so has a marker
pub marker_fields : (m : ℕ) (begin : Bool) (ts : List (List ℕ)) → (length ts ≡ 1 → ⊥) → read_marker m (marker_name begin ∷ ts) ≡ None
unfolding read_marker read_event by_name exactly read_field
marker_fields m true [] other = refl
marker_fields m false [] other = refl
marker_fields m begin (t ∷ []) other = absurd (other refl)
marker_fields m true (t ∷ u ∷ us) other = ap (λ o. o >>= event_block m 2 0) (by (named_value (codes "frame") read_u64 t))
  where
    by : (o : Option ℕ) → read_frame BeginSection (u ∷ us) o ≡ None
    by None = refl
    by (Some x) = refl
marker_fields m false (t ∷ u ∷ us) other = ap (λ o. o >>= event_block m 2 0) (by (named_value (codes "frame") read_u64 t))
  where
    by : (o : Option ℕ) → read_frame EndSection (u ∷ us) o ≡ None
    by None = refl
    by (Some x) = refl

-- a thread and a name are before fields
pub threaded_short : (m : ℕ) (ts : List (List ℕ)) → length ts < 2 → read_threaded m ts ≡ None
unfolding read_threaded
threaded_short m [] few = refl
threaded_short m (t ∷ []) few = refl
threaded_short m (t ∷ u ∷ us) few = absurd (omega arith)

pub threaded_is : (m t : ℕ) (thread name : List ℕ) (ts : List (List ℕ)) → (without_front (codes "thread=") thread >>= number_in (2 ^ 64)) ≡ Some t
    → read_threaded m (thread ∷ name ∷ ts) ≡ read_named m t name ts
unfolding read_threaded
threaded_is m t thread name ts is = ap (λ (o : Option ℕ). o >>= λ t. read_named m t name ts) is

pub threaded_bad : (m : ℕ) (tokens : List (List ℕ)) (thread : List ℕ) (ts : List (List ℕ)) → tokens ≡ thread ∷ ts
    → (without_front (codes "thread=") thread >>= number_in (2 ^ 64)) ≡ None → read_threaded m tokens ≡ None
unfolding read_threaded
threaded_bad m tokens thread ts same none = ap (read_threaded m) same ∙ by ts
  where
    by : (ts : List (List ℕ)) → read_threaded m (thread ∷ ts) ≡ None
    by [] = refl
    by (name ∷ us) = ap (λ (o : Option ℕ). o >>= λ t. read_named m t name us) none

-- the frame of a marker is a number of eight bytes
pub frame_small : (tokens : List (List ℕ)) (token : List ℕ) (frame : ℕ) → tokens ≡ token ∷ [] → frame_of token ≡ Some frame → frame < 2 ^ 64
frame_small tokens token frame one is =
    let a = bind_some (without_front (codes "frame=") token) (number_in (2 ^ 64)) frame is in
    (number_takes (2 ^ 64) a.0 frame (omega arith) a.2).1
