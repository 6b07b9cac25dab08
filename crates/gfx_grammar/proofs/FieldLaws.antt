-- One law a field: what is read of it is spelled so, and what is spelled so is read again.
use Rattle.std.proofs.Common.{◌^◌, refl}
use Rattle.std.specs.Int.{w32, w64}
use Rattle.gfx_model.specs.Spelling.{list_of, id_fields, word_fields, barrier_fields, buffer_region_fields, image_region_fields, mixed_region_fields, submit_fields, present_fields}
use Rattle.gfx_grammar.specs.Reading.{read_u32, read_u64, read_id, read_ids, read_words, barrier_of, read_barrier, buffer_region_of, read_buffer_region, image_region_of, read_image_region, mixed_region_of, read_mixed_region, submit_of, read_submit, present_of, read_present}
use Rattle.gfx_grammar.specs.Reads.{Reads, u64_fields}
use Rattle.gfx_grammar.proofs.NumberLaws.{number_takes, number_again, wide32, wide64}
use Rattle.gfx_grammar.proofs.ReaderLaws.{◌⊠◌, reads_as, reads_list}

pub reads_u32 : Reads read_u32 word_fields
reads_u32 = record {
  takes = λ bytes x rest h e.
      let t = number_takes w32 (2 ^ 32) wide32 bytes x rest h e in
      (record { parts = t.0.parts; rest_bytes = t.0.rest_bytes }, (t.1, tt));
  again = λ x rest fits. number_again w32 (2 ^ 32) wide32 x rest fits.0;
}

pub reads_u64 : Reads read_u64 u64_fields
reads_u64 = record {
  takes = λ bytes x rest h e.
      let t = number_takes w64 (2 ^ 64) wide64 bytes x rest h e in
      (record { parts = t.0.parts; rest_bytes = t.0.rest_bytes }, (t.1, tt));
  again = λ x rest fits. number_again w64 (2 ^ 64) wide64 x rest fits.0;
}

pub reads_id : Reads read_id id_fields
reads_id = record {
  takes = λ bytes x rest h e.
      let t = number_takes w64 (2 ^ 64) wide64 bytes x rest h e in
      (record { parts = t.0.parts; rest_bytes = t.0.rest_bytes }, (t.1, tt));
  again = λ x rest fits. number_again w64 (2 ^ 64) wide64 x rest fits.0;
}

-- ---- records

pub reads_ids : Reads read_ids (list_of id_fields)
reads_ids = reads_list reads_id

pub reads_words : Reads read_words (list_of word_fields)
reads_words = reads_list reads_u32

pub reads_barrier : Reads read_barrier barrier_fields
reads_barrier = reads_as barrier_of (λ b. (b.image, (b.before, b.after))) _ _ barrier_fields (reads_id ⊠ reads_u32 ⊠ reads_u32) (λ x. refl) (λ y. refl)

pub reads_buffer_region : Reads read_buffer_region buffer_region_fields
reads_buffer_region = reads_as buffer_region_of (λ r. (r.from, (r.to, r.size))) _ _ buffer_region_fields (reads_u64 ⊠ reads_u64 ⊠ reads_u64) (λ x. refl) (λ y. refl)

pub reads_image_region : Reads read_image_region image_region_fields
reads_image_region = reads_as image_region_of (λ r. (r.from_x, (r.from_y, (r.to_x, (r.to_y, (r.width, r.height)))))) _ _ image_region_fields
    (reads_u32 ⊠ reads_u32 ⊠ reads_u32 ⊠ reads_u32 ⊠ reads_u32 ⊠ reads_u32) (λ x. refl) (λ y. refl)

pub reads_mixed_region : Reads read_mixed_region mixed_region_fields
reads_mixed_region = reads_as mixed_region_of (λ r. (r.offset, (r.row, (r.rows, (r.x, (r.y, (r.width, r.height))))))) _ _ mixed_region_fields
    (reads_u64 ⊠ reads_u32 ⊠ reads_u32 ⊠ reads_u32 ⊠ reads_u32 ⊠ reads_u32 ⊠ reads_u32) (λ x. refl) (λ y. refl)

pub reads_submit : Reads read_submit submit_fields
reads_submit = reads_as submit_of (λ s. ((s.waits, s.cbs), s.signals)) _ _ submit_fields ((reads_ids ⊠ reads_ids) ⊠ reads_ids) (λ x. refl) (λ y. refl)

pub reads_present : Reads read_present present_fields
reads_present = reads_as present_of (λ p. (p.swapchain, p.index)) _ _ present_fields (reads_id ⊠ reads_u32) (λ x. refl) (λ y. refl)
