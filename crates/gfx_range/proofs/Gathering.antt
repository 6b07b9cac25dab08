-- What is gathered of a range, with one block more.
use Rattle.std.proofs.Common.{◌≡◌, ℕ, Bool, refl, sym, ap, subst, ◌∙◌, List, [], ◌∷◌, ◌++◌, append-nil, flat_map}
use Rattle.std.specs.List.{list_any, range_with_len}
use Rattle.std.proofs.lemmas.Grind.{flat_map-append}
use Rattle.gfx_types.specs.declared.op.Op.{Op}
use Rattle.gfx_types.specs.declared.op.Place.TheVariants as place
use Rattle.gfx_model.specs.Blocks.{Content, Whole}
use Rattle.gfx_model.specs.Blocks.Content.{skipped, effect}
use Rattle.gfx_model.specs.Effects.{changes_of_op, steps_of}
use Rattle.gfx_model.specs.Events.{Event}
use Rattle.gfx_model.specs.History.{onto, view}
use Rattle.gfx_model.specs.Meaning.{events_onto}
use Rattle.gfx_model.specs.Questions.{executed_changes}
use Rattle.gfx_model.specs.Steps.{Step}
use Rattle.gfx_model.specs.Steps.Step.{changes}
use Rattle.gfx_model.specs.Views.{View}
use Rattle.gfx_feature_model.specs.Asked.{Questions, asked_by, event_changes}
use Rattle.gfx_feature_model.specs.Lean.{KeepsNeeded, event_in, events_in}
use Rattle.gfx_trim_law.proofs.Cuts.{onto_events}
use Rattle.gfx_lean_law.specs.Computed.{computed_keep}
use Rattle.gfx_lean_law.proofs.Computed.{computed_is_needed}
use Rattle.gfx_lean_law.proofs.LeanFiles.{same_events}
use Rattle.gfx_tracker.specs.Laws.{changes_in}
use Rattle.gfx_tracker.specs.Operations.{given_by, ops_of}
use Rattle.gfx_tracker.proofs.Operations.{operations_of_events}
use Rattle.gfx_asked.specs.Accesses.{asked_before}
use Rattle.gfx_asked.specs.Asked.{AreSame, questions}
use Rattle.gfx_asked.specs.Law.{StandFor}
use Rattle.gfx_asked.specs.declared.asked.Asked.{Asked}
use Rattle.gfx_asked.proofs.Stand.{accesses_stand}
use Rattle.gfx_needed.specs.NeededIds.{IsFound, IsSearched, is_marked}
use Rattle.gfx_needed.specs.declared.needed.NeededIds.{NeededIds}
use Rattle.gfx_range.specs.Follower.{ops_said}
use Rattle.gfx_range.specs.Range.{IsGathered, IsKept, Names, accesses_said, kept_by, shown_said}
use Rattle.gfx_range.specs.declared.range.Range.{Range}

-- the history of blocks is that of their events
onto_said : (ws : List Whole) (h : List Event) → events_onto ws h ≡ onto (events_in ws) h
onto_said ws h = onto_events ws h ∙ ap (λ es. onto es h) (sym (same_events ws))

-- the events of one block more
events_more : (ws : List Whole) (w : Whole) → events_in (ws ++ w ∷ []) ≡ events_in ws ++ event_in w.content
events_more ws w =
    flat_map-append (λ (w : Whole). event_in w.content) ws (w ∷ []) ∙ ap (λ l. events_in ws ++ l) (append-nil (event_in w.content))

bytes_more : (ws : List Whole) (w : Whole) → flat_map (λ (w : Whole). w.bytes) (ws ++ w ∷ []) ≡ flat_map (λ (w : Whole). w.bytes) ws ++ w.bytes
bytes_more ws w =
    flat_map-append (λ (w : Whole). w.bytes) ws (w ∷ []) ∙ ap (λ l. flat_map (λ (w : Whole). w.bytes) ws ++ l) (append-nil w.bytes)

-- the changes of an event are those of its operations
changes-onto : (ss hs : List Step) → executed_changes (onto ss hs) ≡ onto (changes_in ss) (executed_changes hs)
unfolding executed_changes
changes-onto [] hs = refl
changes-onto (changes c ∷ ss) hs = changes-onto ss (changes c ∷ hs)
changes-onto (s ∷ ss) hs = changes-onto ss (s ∷ hs)

changes_are : (h : List Event) (e : Event) → event_changes h e ≡ onto (flat_map (changes_of_op (given_by e)) (ops_of (view h) e)) []
unfolding executed_changes
changes_are h e = changes-onto (steps_of (view h) e) [] ∙ ap (λ cs. onto cs []) (sym (operations_of_events (view h) e))

module _ (old new : Range) (h : List Event) (ws : List Whole) (w : Whole) (g : IsGathered old h ws) (bytes : new.blocks.items ≡ old.blocks.items ++ w.bytes) where
  bytes_are : new.blocks.items ≡ flat_map (λ w. w.bytes) (ws ++ w ∷ [])
  bytes_are = bytes ∙ ap (λ l. l ++ w.bytes) g.bytes ∙ sym (bytes_more ws w)

  pub gathered_more : (c : Content) → w.content ≡ c → (u v : View) (ops : List Op) → u ≡ view h → v ≡ view (events_onto ws h) → ops ≡ ops_said v c →
      new.accesses ≡ (old.accesses ++ shown_said v c) ++ accesses_said c ops → Names u c old.needed new.needed → IsGathered new h (ws ++ w ∷ [])
  gathered_more skipped is u v ops before behind does accesses names =
      let same : events_in (ws ++ w ∷ []) ≡ events_in ws = events_more ws w ∙ ap (λ c. events_in ws ++ event_in c) is ∙ append-nil (events_in ws) in
      record {
        needed = subst (λ es. IsSearched (view h) es new.needed) (sym same) (subst (IsSearched (view h) (events_in ws)) (sym names) g.needed);
        accesses = subst (λ es. StandFor h es new.accesses) (sym same)
            (subst (StandFor h (events_in ws)) (sym (accesses ∙ append-nil (old.accesses ++ []) ∙ append-nil old.accesses)) g.accesses);
        bytes = bytes_are;
      }
  gathered_more (effect thread e) is u v ops before behind does accesses names =
      let same : events_in (ws ++ w ∷ []) ≡ events_in ws ++ e ∷ [] = events_more ws w ∙ ap (λ c. events_in ws ++ event_in c) is in
      let now : v ≡ view (onto (events_in ws) h) = behind ∙ ap view (onto_said ws h) in
      let acts : event_changes (onto (events_in ws) h) e ≡ onto (flat_map (changes_of_op (given_by e)) ops) [] =
      changes_are (onto (events_in ws) h) e ∙ ap (λ (v : View). onto (flat_map (changes_of_op (given_by e)) (ops_of v e)) []) (sym now) ∙ ap (λ os. onto (flat_map (changes_of_op (given_by e)) os) []) (sym does) in
      let stands = accesses_stand.more h (events_in ws) old.accesses e (given_by e) ops g.accesses acts in
      let are = accesses ∙ ap (λ v. (old.accesses ++ shown_said v (effect thread e)) ++ accesses_said (effect thread e) ops) now in
      record {
        needed = subst (λ es. IsSearched (view h) es new.needed) (sym same)
            (subst (λ u. IsSearched u (events_in ws ++ e ∷ []) new.needed) before (names (events_in ws) (subst (λ u. IsSearched u (events_in ws) old.needed) (sym before) g.needed)));
        accesses = subst (λ es. StandFor h es new.accesses) (sym same) (subst (StandFor h (events_in ws ++ e ∷ [])) (sym are) stands);
        bytes = bytes_are;
      }

-- ---- the end of the range

same_fill : (asked : Asked) (q : Questions) → AreSame (questions asked) q →
    ◌≡◌ {A = ℕ → ℕ → ℕ → Bool} (λ m offset n. list_any (questions asked (place.Memory m)) (range_with_len offset n)) (λ m offset n. list_any (q (place.Memory m)) (range_with_len offset n))
same_fill asked q same = λ i m offset n. list_any (λ j. same (place.Memory m) j i) (range_with_len offset n)

pub kept_just : (r : Range) (needed : NeededIds) (asked : Asked) (h : List Event) (ws : List Whole) → IsGathered r h ws → IsFound (view h) (events_in ws) (is_marked needed) →
    AreSame (questions asked) (asked_before r.accesses) → IsKept (record { needed = needed; asked = asked }) h ws
kept_just r needed asked h ws g found same =
    let q : AreSame (questions asked) (asked_by h (events_in ws)) = λ at j. same at j ∙ ap (λ (q : Questions). q at j) (accesses_stand.asked h (events_in ws) r.accesses g.accesses) in
    let keep : computed_keep (is_marked needed) h (events_in ws) ≡ kept_by (record { needed = needed; asked = asked }) =
    sym (λ i. record { id = is_marked needed; fill = same_fill asked (asked_by h (events_in ws)) q i }) in
    subst (KeepsNeeded h (events_in ws)) keep (computed_is_needed h (events_in ws) (is_marked needed) found.marked found.needed)
