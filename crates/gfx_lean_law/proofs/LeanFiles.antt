-- Lean files keep the frames.
use Rattle.std.proofs.Common.{◌≡◌, ℕ, Bool, true, false, refl, sym, ◌∙◌, ap, subst, List, [], ◌∷◌, ◌++◌, map}
use mathlib.Core.Path.{fun_ext}
use Rattle.std.specs.List.{AllByRecursion}
use Rattle.gfx_types.specs.declared.frame.Frame.{Frame}
use Rattle.gfx_model.specs.Blocks.{Whole, Content, first_position, minor_of}
use Rattle.gfx_model.specs.Blocks.Content.{skipped, effect}
use Rattle.gfx_model.specs.Blocks.End.{clean}
use Rattle.gfx_model.specs.Events.{Event}
use Rattle.gfx_model.specs.History.{onto, view, is_valid}
use Rattle.gfx_model.specs.Frames.{frames}
use Rattle.gfx_model.specs.Meaning.{Means, events_onto, has_frame}
use Rattle.gfx_model.specs.Trimmed.{Cut, boundary, has_boundary, history_to, range_from, file_of}
use Rattle.gfx_feature_model.specs.Lean.{Keep, KeepsNeeded, kept_section}
use Rattle.gfx_feature_model.specs.Lean as lean
use Rattle.gfx_model.proofs.Cutting.{cut_follows}
use Rattle.gfx_grammar.specs.Framing.{part_of, HaveRoom}
use Rattle.gfx_grammar.specs.Splitting.{Blocks}
use Rattle.gfx_laws.specs.Laws.{frames_after}
use Rattle.gfx_laws.proofs.Lists.{all_before}
use Rattle.gfx_section_law.proofs.Whole.{section_of}
use Rattle.gfx_trim_law.specs.Law.{frames_from, HasRange}
use Rattle.gfx_trim_law.proofs.Cuts.{events_in, with_said}
use Rattle.gfx_trim_law.proofs.Boundary.{boundary_there}
use Rattle.gfx_trim_law.proofs.Standing.{IsStanding, room-before, parts-append}
use Rattle.gfx_trim_law.proofs.Files.{computed, kept_frame, Shows, shows}
use Rattle.gfx_trim_law.proofs.Follows.{longer, both_bytes}
use Rattle.gfx_grammar.proofs.HeaderLaws.{minor_of-append, header_good}
use Rattle.gfx_trim_law.proofs.Keeps.{written, file_range}
use Rattle.gfx_trim_law.proofs.Reading.{built_means}
use Rattle.gfx_lean_law.specs.Law.{LeanKeepsFrames, RestLeavesLean, LeanIsOne}
use Rattle.gfx_lean_law.proofs.KeptCovers.{rest, made, kept_is, kept_shape, kept_few, kept_small, kept_spelled, runs}

-- both words for the events of blocks
pub same_events : (ws : List Whole) → lean.events_in ws ≡ events_in ws
same_events [] = refl
same_events (w ∷ ws) = by w.content (same_events ws)
  where
    by : (c : Content) → lean.events_in ws ≡ events_in ws → lean.event_in c ++ lean.events_in ws ≡ with_said c (events_in ws)
    by skipped more = more
    by (effect thread event) more = ap (λ r. event ∷ r) more

-- what follows the blocks without a fault does not matter for the range
same_cut : (first last : ℕ) (bytes : List ℕ) (shown : List Frame) (r : HasRange first last bytes shown) (s : Shows last bytes shown) (others : List Whole) →
    (history_to (boundary first ((s.valid).good ++ others)) ≡ history_to (boundary first (s.valid).good))
    × (range_from last (boundary first ((s.valid).good ++ others)) ≡ range_from last (boundary first (s.valid).good))
same_cut first last bytes shown r s others =
    let good = (s.valid).good in
    let all = frames (events_onto good []) in
    let is = file_range first last bytes shown r s in
    let there : has_boundary first good ≡ true =
    boundary_there first good (s.valid).valid (kept_frame _ first all (ap (λ (fs : List Frame). has_frame first fs) (sym s.shown_is) ∙ r.first_there)) in
    cut_follows first last good others there is.reached

pub lean_keeps_frames : LeanKeepsFrames
lean_keeps_frames first last bytes taken shown r t =
    let s = shows last bytes shown r.bytes_fit r.means in
    let good = (s.valid).good in
    let others = (s.valid).others in
    let m = minor_of bytes in
    let is = file_range first last bytes shown r s in
    let c : Cut = boundary first good in
    let h : List Event = history_to c in
    let range = range_from last c in
    let es = events_in range in
    let standing = subst (AllByRecursion (IsStanding m)) (sym (s.valid).parts) (s.file).standing in
    let room = subst (HaveRoom (first_position bytes)) (ap (map part_of) (sym (s.valid).parts) ∙ parts-append good others) (s.file).room in
    let w = written m (first_position bytes) first last good c (s.file).version refl (all_before (IsStanding m) good others standing)
    (room-before (first_position bytes) (map part_of good) (map part_of others) room) is in
    let same_blocks : t.blocks ≡ good ++ others =
    ap (λ (b : Blocks). b.items) (sym (computed bytes t.blocks t.end r.bytes_fit t.are) ∙ computed bytes s.blocks s.end r.bytes_fit s.are) ∙ sym (s.valid).parts in
    let both = same_cut first last bytes shown r s others in
    let same_h : history_to (boundary first t.blocks) ≡ h = ap (λ (ws : List Whole). history_to (boundary first ws)) same_blocks ∙ both.0 in
    let same_range : range_from last (boundary first t.blocks) ≡ range = ap (λ (ws : List Whole). range_from last (boundary first ws)) same_blocks ∙ both.1 in
    let needs : KeepsNeeded h es t.keep =
    subst (λ h. KeepsNeeded h es t.keep) same_h
    (subst (λ es. KeepsNeeded (history_to (boundary first t.blocks)) es t.keep) (ap lean.events_in same_range ∙ same_events range) t.keeps) in
    let n = (view h).next_frame in
    let file : taken ≡ file_of m (kept_section t.keep h n) range =
    t.same
    ∙ ap (λ h. file_of m (kept_section t.keep h first) (range_from last (boundary first t.blocks))) same_h
    ∙ ap (λ ws. file_of m (kept_section t.keep h first) ws) same_range
    ∙ ap (λ n. file_of m (kept_section t.keep h n) range) (sym (is.start).number) in
    let section = kept_is h es t.keep is.at needs in
    let law = runs h es t.keep is.at needs is.markers is.valid in
    let kept : frames_after h es ≡ frames_from first shown = sym (ap (frames_from first) s.shown_is ∙ is.shown) in
    let means : Means (file_of m (section_of (rest h es t.keep is.at needs) n) range) (frames_from first shown) clean =
    built_means m n (made h es t.keep is.at needs) range w.version
    (record {
      shape = kept_shape h es t.keep is.at needs;
      few = kept_few h es t.keep is.at needs;
      small = kept_small h es t.keep is.at needs m;
      spelled = kept_spelled h es t.keep is.at needs m w.spelled;
    })
    w.behind
    (frames_from first shown)
    (ap (λ (made : List Event). is_valid (onto es (onto made []))) (sym section) ∙ law.valid)
    (ap (λ (made : List Event). frames (onto es (onto made []))) (sym section) ∙ law.same ∙ kept) in
    subst (λ (out : List ℕ). Means out (frames_from first shown) clean) (sym (file ∙ ap (λ made. file_of m made range) section)) means

pub rest_leaves_lean : RestLeavesLean
rest_leaves_lean first last bytes rest taken shown r others t =
    let s = shows last bytes shown r.bytes_fit r.means in
    let good = (s.valid).good in
    let l = longer last bytes rest shown s (both_bytes bytes rest r.bytes_fit others) in
    let same_blocks : t.blocks ≡ good ++ (s.valid).others =
    ap (λ (b : Blocks). b.items) (sym (computed bytes t.blocks t.end r.bytes_fit t.are) ∙ computed bytes s.blocks s.end r.bytes_fit s.are) ∙ sym (s.valid).parts in
    let minor : minor_of (bytes ++ rest) ≡ minor_of bytes = minor_of-append bytes rest (header_good bytes (s.file).good).0 in
    let before = same_cut first last bytes shown r s (s.valid).others in
    let after = same_cut first last bytes shown r s l.others in
    let same_h : history_to (boundary first t.blocks) ≡ history_to (boundary first (good ++ l.others)) =
    ap (λ (ws : List Whole). history_to (boundary first ws)) same_blocks ∙ before.0 ∙ sym after.0 in
    let same_range : range_from last (boundary first t.blocks) ≡ range_from last (boundary first (good ++ l.others)) =
    ap (λ (ws : List Whole). range_from last (boundary first ws)) same_blocks ∙ before.1 ∙ sym after.1 in
    record {
      blocks = good ++ l.others;
      end = l.end;
      are = l.are;
      keep = t.keep;
      keeps = subst (λ h. KeepsNeeded h (lean.events_in (range_from last (boundary first (good ++ l.others)))) t.keep) same_h
          (subst (λ ws. KeepsNeeded (history_to (boundary first t.blocks)) (lean.events_in ws) t.keep) same_range t.keeps);
      same = t.same
          ∙ ap (λ h. file_of (minor_of bytes) (kept_section t.keep h first) (range_from last (boundary first t.blocks))) same_h
          ∙ ap (file_of (minor_of bytes) (kept_section t.keep (history_to (boundary first (good ++ l.others))) first)) same_range
          ∙ ap (λ k. file_of k (kept_section t.keep (history_to (boundary first (good ++ l.others))) first) (range_from last (boundary first (good ++ l.others)))) (sym minor);
    }

-- ---- one lean file

-- two tests that hold of the same are one
same_test : (a b : Bool) → (a ≡ true → b ≡ true) → (b ≡ true → a ≡ true) → a ≡ b
same_test true b f g = sym (f refl)
same_test false true f g = g refl
same_test false false f g = refl

same_keep : (h range : List Event) (k l : Keep) → KeepsNeeded h range k → KeepsNeeded h range l → k ≡ l
same_keep h range k l a b = λ i. record {
  id = fun_ext (λ x. same_test (k.id x) (l.id x) (λ e. b.needed x (a.only x e)) (λ e. a.needed x (b.only x e))) i;
  fill = fun_ext (λ m. fun_ext (λ offset. fun_ext (λ n. same_test (k.fill m offset n) (l.fill m offset n)
      (λ e. let j = a.only_asked m offset n e in b.asked m offset n j.0 j.1 j.2 j.3)
      (λ e. let j = b.only_asked m offset n e in a.asked m offset n j.0 j.1 j.2 j.3)))) i;
}

pub lean_is_one : LeanIsOne
lean_is_one first last bytes one other fit t u =
    let same : t.blocks ≡ u.blocks = ap (λ (b : Blocks). b.items) (sym (computed bytes t.blocks t.end fit t.are) ∙ computed bytes u.blocks u.end fit u.are) in
    let h : List Whole → List Event = λ ws. history_to (boundary first ws) in
    let range : List Whole → List Whole = λ ws. range_from last (boundary first ws) in
    let needs : KeepsNeeded (h u.blocks) (lean.events_in (range u.blocks)) t.keep = subst (λ ws. KeepsNeeded (h ws) (lean.events_in (range ws)) t.keep) same t.keeps in
    t.same ∙ ap (λ ws. file_of (minor_of bytes) (kept_section t.keep (h ws) first) (range ws)) same
    ∙ ap (λ (k : Keep). file_of (minor_of bytes) (kept_section k (h u.blocks) first) (range u.blocks)) (same_keep (h u.blocks) (lean.events_in (range u.blocks)) t.keep u.keep needs u.keeps)
    ∙ sym u.same
