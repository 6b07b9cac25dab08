use Rattle.std.proofs.Common.{◌∷◌, [], ◌++◌, length, drop, take_at, sym, ap, ◌∙◌, arith}
use Rattle.std.proofs.lemmas.List.{append-nil}
use Rattle.gfx_model.specs.Spelling.{id}
use Rattle.gfx_grammar.specs.Reads.{text_of}
use Rattle.gfx_params.specs.Writes.{written}
use Rattle.gfx_params.proofs.Writing.{written_on}
use Rattle.gfx_params.proofs.write.RefSliceU8WriteFields.write.Goals as goal

pub returns-clause-bytes : goal.returns-clause-bytes
returns-clause-bytes c =
    let bytes = c.args.self.now.now in
    let count = text_of (id (length bytes) ∷ []) in
    let on = written_on c.args.out.now.items c.args.at count bytes (let end = ap length (append-nil bytes) in omega (arith, c.requires.room, end)) in
    take_at c.set_bytes.new.bytes (drop (length c.set_bytes.new.bytes) c.write-behind.new.out.items) c.write-behind.new.out.len
    (omega (arith, c.set_bytes.auto.bytes, ap length c.deref_mut.ensures.value))
    ∙ c.set_bytes.ensures ∙ ap (λ l. written l c.write-behind.result bytes) c.deref_mut.ensures.value ∙ (λ i. written (c.write-behind.ensures.bytes i) (c.write-behind.ensures.behind i) bytes) ∙ on
    ∙ ap (λ l. written c.args.out.now.items c.args.at (count ++ l)) (sym (append-nil bytes))
