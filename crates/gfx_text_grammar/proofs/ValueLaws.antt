-- One law a value: what is read of it shows so, and what shows so is read.
use Rattle.std.proofs.Common.{◌≡◌, ℕ, ◌<◌, ◌^◌, true, List, [], ◌∷◌, length, map, refl, sym, ap, arith, decimal, subst, ◌∙◌}
use Rattle.std.proofs.lemmas.Bool.{and_parts}
use Rattle.std.specs.List.{AllByRecursion, list_all}
use Rattle.std.proofs.lemmas.Fmt.{decimal_nonempty}
use Rattle.std.proofs.lemmas.List.{length-map}
use Rattle.std.proofs.lemmas.Bool.Decides.{nat_tests}
use Rattle.gfx_script_model.specs.Names.{is_letter_or_digit}
use Rattle.gfx_model.specs.Fields.{Atom, barrier_atoms, buffer_region_atoms, image_region_atoms, mixed_region_atoms, present_atoms, Records, atoms_of}
use Rattle.gfx_model.specs.Fields.Value.{records, submitted}
use Rattle.gfx_model.specs.Text.{hex_text}
use Rattle.gfx_script_model.specs.FieldText.{list_text, record_text, atom_text, submit_text, value_text, IdFits, AtomFits, ListFits, SubmitFits, ValueFits}
use Rattle.gfx_grammar.specs.Reading.{Reader, barrier_of, buffer_region_of, image_region_of, mixed_region_of, present_of}
use Rattle.gfx_text_grammar.specs.Reading.{Style, read_u32, read_u64, read_raw, read_id, read_maybe, read_ids, read_words, read_list, read_barrier, read_buffer_region, read_image_region, read_mixed_region, read_present, submit_from, read_submit}
use Rattle.gfx_text_grammar.specs.Reads.{Reads, IsStyle, begins_item}
use Rattle.gfx_text_grammar.proofs.WordLaws.{number_takes, number_again, decimal_letters, RawFits, raw_takes, raw_again, hex_letters}
use Rattle.gfx_text_grammar.proofs.ReaderLaws.{reads_word, ◌⊠◌, reads_same, reads_record, reads_list}
use Rattle.gfx_text_grammar.proofs.Lists.{all_of_map, map_of_all}
use mathlib.Core.List.{map-map}

pub reads_u32 : Reads read_u32 decimal (λ n. n < 2 ^ 32)
reads_u32 = reads_word _ _ _ (λ word x is. number_takes (2 ^ 32) word x (omega arith) is) (λ x fit. (number_again (2 ^ 32) x (omega arith) fit, decimal_letters x (omega arith)))

pub reads_u64 : Reads read_u64 decimal (λ n. n < 2 ^ 64)
reads_u64 = reads_word _ _ _ (λ word x is. number_takes (2 ^ 64) word x (omega arith) is) (λ x fit. (number_again (2 ^ 64) x (omega arith) fit, decimal_letters x fit))

pub reads_raw : Reads read_raw hex_text RawFits
reads_raw = reads_word _ _ _ (λ word x is. raw_takes word x is) (λ x fit. (raw_again x fit, hex_letters x fit))

pub reads_id : {s : Style} → IsStyle s → Reads (read_id s) s.ids.show (IdFits s.ids)
reads_id {s} is = reads_word _ _ _ is.takes is.again

pub reads_maybe : {s : Style} → IsStyle s → Reads (read_maybe s) s.ids.show (λ n. s.ids.is_maybe n ≡ true)
reads_maybe {s} is = reads_word _ _ _ is.maybe_takes is.maybe_again

-- ---- lists

pub letter_begins : (word : List ℕ) → 0 < length word → list_all is_letter_or_digit word ≡ true → begins_item word ≡ true
letter_begins [] long all = absurd (omega arith)
letter_begins (c ∷ cs) long all =
    let h = (and_parts (is_letter_or_digit c) (list_all is_letter_or_digit cs) all).0 in
    grind (arith, nat_tests, h)

pub reads_ids : {s : Style} → IsStyle s → Reads (read_ids s) (λ xs. list_text (map s.ids.show xs)) (ListFits (IdFits s.ids))
reads_ids {s} is = reads_list (reads_id is) is.begins

pub reads_words : Reads read_words (λ xs. list_text (map decimal xs)) (ListFits (λ n. n < 2 ^ 32))
reads_words = reads_list reads_u32 (λ x fit. letter_begins (decimal x) (decimal_nonempty x (omega arith)) (decimal_letters x (omega arith)))

-- ---- records

-- the reader reads values that have these atoms
abbrev pub ReadsAtoms : {X : Type 0} → (s : Style) → Reader X → (X → List Atom) → Type 0
ReadsAtoms s r atoms = Reads r (λ x. record_text (map (atom_text s.ids.show) (atoms x))) (λ x. AllByRecursion (AtomFits s.ids) (atoms x))

pub reads_barrier : {s : Style} → IsStyle s → ReadsAtoms s (read_barrier s) barrier_atoms
reads_barrier {s} is =
    reads_same _ _ (reads_record barrier_of (λ b. (b.image, (b.before, b.after))) (reads_id is ⊠ reads_u32 ⊠ reads_u32) (λ x. refl) (λ y. refl))
    (λ y. refl) (λ y h. (h.0, (h.1.0, (h.1.1, tt)))) (λ y h. (h.0, (h.1.0, h.1.1.0)))

pub reads_buffer_region : {s : Style} → IsStyle s → ReadsAtoms s (read_buffer_region s) buffer_region_atoms
reads_buffer_region {s} is =
    reads_same _ _ (reads_record buffer_region_of (λ r. (r.from, (r.to, r.size))) (reads_u64 ⊠ reads_u64 ⊠ reads_u64) (λ x. refl) (λ y. refl))
    (λ y. refl) (λ y h. (h.0, (h.1.0, (h.1.1, tt)))) (λ y h. (h.0, (h.1.0, h.1.1.0)))

pub reads_image_region : {s : Style} → IsStyle s → ReadsAtoms s (read_image_region s) image_region_atoms
reads_image_region {s} is =
    reads_same _ _ (reads_record image_region_of (λ r. (r.from_x, (r.from_y, (r.to_x, (r.to_y, (r.width, r.height))))))
    (reads_u32 ⊠ reads_u32 ⊠ reads_u32 ⊠ reads_u32 ⊠ reads_u32 ⊠ reads_u32) (λ x. refl) (λ y. refl))
    (λ y. refl) (λ y h. (h.0, (h.1.0, (h.1.1.0, (h.1.1.1.0, (h.1.1.1.1.0, (h.1.1.1.1.1, tt))))))) (λ y h. (h.0, (h.1.0, (h.1.1.0, (h.1.1.1.0, (h.1.1.1.1.0, h.1.1.1.1.1.0))))))

pub reads_mixed_region : {s : Style} → IsStyle s → ReadsAtoms s (read_mixed_region s) mixed_region_atoms
reads_mixed_region {s} is =
    reads_same _ _ (reads_record mixed_region_of (λ r. (r.offset, (r.row, (r.rows, (r.x, (r.y, (r.width, r.height)))))))
    (reads_u64 ⊠ reads_u32 ⊠ reads_u32 ⊠ reads_u32 ⊠ reads_u32 ⊠ reads_u32 ⊠ reads_u32) (λ x. refl) (λ y. refl))
    (λ y. refl) (λ y h. (h.0, (h.1.0, (h.1.1.0, (h.1.1.1.0, (h.1.1.1.1.0, (h.1.1.1.1.1.0, (h.1.1.1.1.1.1, tt))))))))
    (λ y h. (h.0, (h.1.0, (h.1.1.0, (h.1.1.1.0, (h.1.1.1.1.0, (h.1.1.1.1.1.0, h.1.1.1.1.1.1.0)))))))

pub reads_present : {s : Style} → IsStyle s → ReadsAtoms s (read_present s) present_atoms
reads_present {s} is =
    reads_same _ _ (reads_record present_of (λ p. (p.swapchain, p.index)) (reads_id is ⊠ reads_u32) (λ x. refl) (λ y. refl))
    (λ y. refl) (λ y h. (h.0, (h.1, tt))) (λ y h. (h.0, h.1.0))

pub reads_records : {X : Type 0} (s : Style) {r : Reader X} (kind : List X → Records) (atoms : X → List Atom)
    → ((xs : List X) → atoms_of (kind xs) ≡ map atoms xs) → ReadsAtoms s r atoms
    → Reads (read_list r) (λ xs. value_text s.ids.show (records (kind xs))) (λ xs. ValueFits s.ids (records (kind xs)))
reads_records {X} s {r} kind atoms same p =
    let text = λ (r : List Atom). record_text (map (atom_text s.ids.show) r) in
    let Fit = AllByRecursion (AtomFits s.ids) in
    reads_same _ _ (reads_list p (λ x fit. refl))
    (λ xs. ap list_text (sym (map-map text atoms xs)) ∙ ap (λ (rs : List (List Atom)). list_text (map text rs)) (sym (same xs)))
    (λ xs h. subst (ListFits Fit) (sym (same xs)) (omega (arith, h.0, length-map xs atoms), map_of_all Fit atoms xs h.1))
    (λ xs h. let g = subst (ListFits Fit) (same xs) h in (omega (arith, g.0, length-map xs atoms), all_of_map Fit atoms xs g.1))

pub reads_submit : {s : Style} → IsStyle s → Reads (read_submit s) (submit_text s.ids.show) (SubmitFits s.ids)
reads_submit {s} is =
    reads_same _ _ (reads_record submit_from (λ x. (x.waits, (x.cbs, x.signals))) (reads_ids is ⊠ reads_ids is ⊠ reads_ids is) (λ x. refl) (λ y. refl))
    (λ y. refl) (λ y h. h) (λ y h. h)

pub reads_submits : {s : Style} → IsStyle s → Reads (read_list (read_submit s)) (λ xs. value_text s.ids.show (submitted xs)) (λ xs. ValueFits s.ids (submitted xs))
reads_submits {s} is = reads_list (reads_submit is) (λ x fit. refl)
