-- The lines of skipped blocks: what is read of one is a block with this line, and the line of one is read.
use Rattle.std.proofs.Common.{◌≡◌, ℕ, ◌≤◌, nat_eq, nat_le, ◌&&◌, ◌||◌, Bool, true, false, cond, List, [], ◌∷◌, ◌++◌, length, take, drop, Option, Some, None, refl, sym, ap, subst, ◌∙◌, arith, length-append, length-drop, take-append-drop, ◌⊎◌, inl, inr, codes}
use Rattle.std.proofs.lemmas.Option.{cond_some}
use Rattle.std.specs.Int.{w32, to_le_bytes}
use Rattle.std.specs.List.{join_with_byte}
use Rattle.std.proofs.lemmas.Bool.{cond-true, eqb-true, le-leb, leb-true}
use Rattle.std.proofs.lemmas.List.{length-take-le}
use Rattle.gfx_model.specs.Checks.{same_list}
use Rattle.gfx_model.specs.Spelling.{block_bytes}
use Rattle.gfx_model.specs.Text.{hex_text}
use Rattle.gfx_feature_model.specs.Listing.{skipped_name, skipped_bytes, skipped_text, block_text}
use Rattle.gfx_model.specs.Blocks.{u32_at, payload_field, Content, skipped, is_skipped, IsContent}
use Rattle.gfx_grammar.specs.Reading.{◌>>=◌}
use Rattle.gfx_grammar.specs.Reads.{AreBytes}
use Rattle.gfx_grammar.proofs.NumberLaws.{bind_some, some_is, all_bytes, AreBytes-take, AreBytes-drop, wide32}
use Rattle.gfx_grammar.specs.Framing.{Part}
use Rattle.gfx_grammar.proofs.EventLaws.{chosen}
use Rattle.gfx_grammar.proofs.ContentLaws.{content_is_read}
use Rattle.gfx_grammar.proofs.WrittenLaws.{block_bytes-block}
use Rattle.gfx_text_grammar.specs.Reading.{read_raw}
use Rattle.gfx_text_grammar.specs.FieldReading.{named_value}
use Rattle.gfx_text_grammar.specs.Splits.{is_without, tokens_of}
use Rattle.gfx_text_grammar.specs.Lines.{or_else, block_of, skipped_kind, skipped_payload, read_skipped, read_marker, read_threaded, read_line, HasLine}
use Rattle.gfx_text_grammar.proofs.WordLaws.{RawFits, hex_letters}
use Rattle.gfx_text_grammar.proofs.ValueLaws.{reads_raw}
use Rattle.gfx_text_grammar.proofs.FieldLaws.{named_takes, named_again}
use Rattle.gfx_text_grammar.proofs.Graphic.{are_graphic, graphic-append, letters_graphic}
use Rattle.gfx_text_grammar.proofs.SplitLaws.{tokens_again, no_feed, without-append}
use Rattle.gfx_grammar.proofs.ByteLaws.{are_bytes, le32_bytes, block_all, both_bytes, AllBytes}
use Rattle.gfx_grammar.proofs.WrittenLaws.{block-fields}
use Rattle.gfx_text_grammar.proofs.Lists.{same_list-true}
use Rattle.gfx_model.specs.Limits.{max_payload}

pub or_else_some : {X : Type 0} (a b : Option X) (x : X) → or_else a b ≡ Some x → (a ≡ Some x) ⊎ (b ≡ Some x)
or_else_some (Some y) b x is = inl is
or_else_some None b x is = inr is

-- ---- a block that is made

-- the block of a payload, with the line of its bytes
pub made_line : (m kind : ℕ) (load : List ℕ) (c : Content) (p : Part) (line : List ℕ) → 1 ≤ kind → kind ≤ 5 → AllBytes load
    → (length load ≤ max_payload → IsContent m kind load c × (line ≡ block_text m (block_bytes kind load) c)) → block_of kind load c ≡ Some p → HasLine m p line
made_line m kind load c p line low high fit says is =
    let h = cond_some (nat_le (length load) max_payload) _ _ is in
    let small : length load ≤ max_payload = leb-true _ _ h.0 in
    let s = says small in
    subst (λ (z : Part). HasLine m z line) h.1 (record {
      block = block_bytes-block m kind load c low high small (content_is_read m kind load c s.0);
      bytes = are_bytes (block_bytes kind load) (block_all kind load fit);
      same = s.1;
    })

pub of_block : (kind : ℕ) (load : List ℕ) (c : Content) → length load ≤ max_payload → block_of kind load c ≡ Some (record { bytes = block_bytes kind load; content = c })
of_block kind load c small = cond-true _ _ _ (le-leb _ _ small)

-- ---- skipped blocks

kind_named : (name : List ℕ) (k : ℕ) → skipped_kind name ≡ Some k
    → ((name ≡ codes "frame") × (1 ≡ k)) ⊎ (((name ≡ codes "annotation") × (5 ≡ k)) ⊎ ((name ≡ codes "message") × (3 ≡ k)))
kind_named name k is =
    elim (chosen (same_list name (codes "frame")) _ _ _ is) [
      | inl h ↦ inl (same_list-true name (codes "frame") h.0, some_is 1 k h.1)
      | inr h ↦ inr (elim (chosen (same_list name (codes "annotation")) _ _ _ h.1) [
        | inl g ↦ inl (same_list-true name (codes "annotation") g.0, some_is 5 k g.1)
        | inr g ↦ inr (let f = cond_some (same_list name (codes "message")) _ _ g.1 in (same_list-true name (codes "message") f.0, f.1))
      ])
    ]

-- a message has its id before it
message_skipped : (bs : List ℕ) → is_skipped 3 (to_le_bytes w32 1 ++ bs) ≡ true
message_skipped bs = ap (λ b. b && true) (le-leb 4 (length (to_le_bytes w32 1 ++ bs)) (omega (arith, length-append (to_le_bytes w32 1) bs)))

skipped_made : (m k : ℕ) (bs line : List ℕ) (p : Part) → 1 ≤ k → k ≤ 5 → AllBytes (skipped_payload k bs)
    → is_skipped k (skipped_payload k bs) ≡ true → line ≡ skipped_text k (skipped_payload k bs) → block_of k (skipped_payload k bs) skipped ≡ Some p → HasLine m p line
skipped_made m k bs line p low high fit is same made =
    let load = skipped_payload k bs in
    made_line m k load skipped p line low high fit (λ small.
    let fields = block-fields k load high small in
    (is, same ∙ ap (skipped_text k) (sym fields.2) ∙ ap (λ n. skipped_text n (payload_field (block_bytes k load))) (sym fields.1))) made

pub skipped_takes : (m : ℕ) (tokens : List (List ℕ)) (p : Part) → read_skipped tokens ≡ Some p → HasLine m p (join_with_byte 32 tokens)
unfolding read_skipped
skipped_takes m [] p is = absurd cc
skipped_takes m (name ∷ []) p is = absurd cc
skipped_takes m (name ∷ value ∷ t ∷ ts) p is = absurd cc
skipped_takes m (name ∷ value ∷ []) p is =
    let a = bind_some (skipped_kind name) (λ kind. named_value (codes "bytes") read_raw value >>= λ bytes. block_of kind (skipped_payload kind bytes) skipped) p is in
    let b = bind_some (named_value (codes "bytes") read_raw value) (λ bytes. block_of a.0 (skipped_payload a.0 bytes) skipped) p a.2 in
    let h = named_takes reads_raw (codes "bytes") value b.0 b.1 in
    let line = ap (λ (z : List ℕ). name ++ 32 ∷ z) h.0 in
    by name a.0 b.0 h.1 line (kind_named name a.0 a.1) b.2
  where
    by : (name : List ℕ) (k : ℕ) (bs : List ℕ) → RawFits bs → name ++ 32 ∷ value ≡ name ++ 32 ∷ (codes "bytes" ++ codes "=" ++ hex_text bs)
        → ((name ≡ codes "frame") × (1 ≡ k)) ⊎ (((name ≡ codes "annotation") × (5 ≡ k)) ⊎ ((name ≡ codes "message") × (3 ≡ k)))
        → block_of k (skipped_payload k bs) skipped ≡ Some p → HasLine m p (name ++ 32 ∷ value)
    by name k bs fit line (inl h) made =
        skipped_made m 1 bs (name ++ 32 ∷ value) p (omega arith) (omega arith) fit.1 refl (line ∙ ap (λ (z : List ℕ). z ++ 32 ∷ (codes "bytes" ++ codes "=" ++ hex_text bs)) h.0)
        (subst (λ n. block_of n (skipped_payload n bs) skipped ≡ Some p) (sym h.1) made)
    by name k bs fit line (inr (inl h)) made =
        skipped_made m 5 bs (name ++ 32 ∷ value) p (omega arith) (omega arith) fit.1 refl (line ∙ ap (λ (z : List ℕ). z ++ 32 ∷ (codes "bytes" ++ codes "=" ++ hex_text bs)) h.0)
        (subst (λ n. block_of n (skipped_payload n bs) skipped ≡ Some p) (sym h.1) made)
    by name k bs fit line (inr (inr h)) made =
        skipped_made m 3 bs (name ++ 32 ∷ value) p (omega arith) (omega arith) (both_bytes (to_le_bytes w32 1) bs (le32_bytes 1) fit.1) (message_skipped bs)
        (line ∙ ap (λ (z : List ℕ). z ++ 32 ∷ (codes "bytes" ++ codes "=" ++ hex_text bs)) h.0)
        (subst (λ n. block_of n (skipped_payload n bs) skipped ≡ Some p) (sym h.1) made)

-- ---- the line of a skipped block is read

pub not_skipped : (name : List ℕ) (rest : List (List ℕ)) → skipped_kind name ≡ None → read_skipped (name ∷ rest) ≡ None
unfolding read_skipped
not_skipped name [] is = refl
not_skipped name (value ∷ []) is = ap (λ o. o >>= λ kind. named_value (codes "bytes") read_raw value >>= λ bytes. block_of kind (skipped_payload kind bytes) skipped) is
not_skipped name (value ∷ t ∷ ts) is = refl

skipped_again : (m k : ℕ) (name load bs : List ℕ) → skipped_kind name ≡ Some k → are_graphic name ≡ true → skipped_payload k bs ≡ load → RawFits bs → length load ≤ max_payload
    → read_line m (name ++ 32 ∷ (codes "bytes" ++ codes "=" ++ hex_text bs)) ≡ Some (record { bytes = block_bytes k load; content = skipped })
unfolding read_line read_skipped
skipped_again m k name load bs kind shows same fit small =
    let value = codes "bytes" ++ codes "=" ++ hex_text bs in
    let tokens : tokens_of (name ++ 32 ∷ value) ≡ name ∷ value ∷ [] =
    tokens_again name (value ∷ []) (shows, (graphic-append (codes "bytes" ++ codes "=") (hex_text bs) refl (letters_graphic (hex_text bs) (hex_letters bs fit)), tt)) in
    let made : read_skipped (name ∷ value ∷ []) ≡ Some (record { bytes = block_bytes k load; content = skipped }) =
    ap (λ o. o >>= λ kind. named_value (codes "bytes") read_raw value >>= λ bytes. block_of kind (skipped_payload kind bytes) skipped) kind
    ∙ ap (λ o. o >>= λ bytes. block_of k (skipped_payload k bytes) skipped) (named_again reads_raw (codes "bytes") bs fit)
    ∙ ap (λ (z : List ℕ). block_of k z skipped) same ∙ of_block k load skipped small in
    ap (λ (z : List (List ℕ)). or_else (read_skipped z) (or_else (read_marker m z) (read_threaded m z))) tokens
    ∙ ap (λ o. or_else o (or_else (read_marker m (name ∷ value ∷ [])) (read_threaded m (name ∷ value ∷ [])))) made

-- a message's payload is its id and its bytes
message_payload : (load : List ℕ) → AreBytes load → 4 ≤ length load → u32_at load 0 ≡ 1 → to_le_bytes w32 1 ++ drop 4 load ≡ load
message_payload load fit long is =
    ap (λ (z : List ℕ). z ++ drop 4 load) (ap (to_le_bytes w32) (sym is) ∙ wide32.back (take 4 load) (length-take-le 4 load long) (AreBytes-take 4 load fit))
    ∙ take-append-drop 4 load

-- a skipped block is a frame marker, an annotation or a message
skipped_kinds : (kind : ℕ) (load : List ℕ) → is_skipped kind load ≡ true → (kind ≡ 1) ⊎ ((kind ≡ 5) ⊎ ((kind ≡ 3) × (4 ≤ length load) × (u32_at load 0 ≡ 1)))
skipped_kinds kind load is = by (nat_eq kind 1) (nat_eq kind 5) (nat_eq kind 3) (nat_le 4 (length load)) (nat_eq (u32_at load 0) 1) refl refl refl refl refl is
  where
    by : (a b c d e : Bool) → nat_eq kind 1 ≡ a → nat_eq kind 5 ≡ b → nat_eq kind 3 ≡ c → nat_le 4 (length load) ≡ d → nat_eq (u32_at load 0) 1 ≡ e
        → (a || b || c && d && e) ≡ true → (kind ≡ 1) ⊎ ((kind ≡ 5) ⊎ ((kind ≡ 3) × (4 ≤ length load) × (u32_at load 0 ≡ 1)))
    by true b c d e p1 p5 p3 pl pu h = inl (eqb-true kind 1 p1)
    by false true c d e p1 p5 p3 pl pu h = inr (inl (eqb-true kind 5 p5))
    by false false true true true p1 p5 p3 pl pu h = inr (inr (eqb-true kind 3 p3, leb-true 4 (length load) pl, eqb-true (u32_at load 0) 1 pu))
    by false false true true false p1 p5 p3 pl pu h = absurd cc
    by false false true false e p1 p5 p3 pl pu h = absurd cc
    by false false false d e p1 p5 p3 pl pu h = absurd cc

raw_fits : (load : List ℕ) → AreBytes load → length load ≤ max_payload → RawFits load
raw_fits load fit small = (omega arith, all_bytes load fit)

pub skipped_line : (m kind : ℕ) (load : List ℕ) → AreBytes load → length load ≤ max_payload → is_skipped kind load ≡ true
    → read_line m (skipped_text kind load) ≡ Some (record { bytes = block_bytes kind load; content = skipped })
skipped_line m kind load fit small is =
    elim (skipped_kinds kind load is) [
      | inl one ↦ subst (λ k. read_line m (skipped_text k load) ≡ Some (record { bytes = block_bytes k load; content = skipped })) (sym one)
          (skipped_again m 1 (codes "frame") load load refl refl refl (raw_fits load fit small) small)
      | inr (inl five) ↦ subst (λ k. read_line m (skipped_text k load) ≡ Some (record { bytes = block_bytes k load; content = skipped })) (sym five)
          (skipped_again m 5 (codes "annotation") load load refl refl refl (raw_fits load fit small) small)
      | inr (inr three) ↦ subst (λ k. read_line m (skipped_text k load) ≡ Some (record { bytes = block_bytes k load; content = skipped })) (sym three.0)
          (let rest = drop 4 load in
          skipped_again m 3 (codes "message") load rest refl refl (message_payload load fit three.1 three.2)
          (raw_fits rest (AreBytes-drop 4 load fit) (omega (arith, length-drop 4 load))) small)
    ]

-- ---- and has no line feed

pub skipped_no_feed : (kind : ℕ) (load : List ℕ) → AreBytes load → length load ≤ max_payload → is_without 10 (skipped_text kind load) ≡ true
skipped_no_feed kind load fit small =
    without-append 10 (skipped_name kind ++ codes " bytes=") (hex_text (skipped_bytes kind load))
    (without-append 10 (skipped_name kind) (codes " bytes=") (by_name_test (nat_eq kind 1) (nat_eq kind 5)) refl)
    (by_load (nat_eq kind 3))
  where
    by_name_test : (a b : Bool) → is_without 10 (cond a (codes "frame") (cond b (codes "annotation") (codes "message"))) ≡ true
    by_name_test true b = refl
    by_name_test false true = refl
    by_name_test false false = refl

    hex : (xs : List ℕ) → AreBytes xs → length xs ≤ max_payload → is_without 10 (hex_text xs) ≡ true
    hex xs f s = no_feed (hex_text xs) (letters_graphic (hex_text xs) (hex_letters xs (raw_fits xs f s)))

    by_load : (b : Bool) → is_without 10 (hex_text (cond b (drop 4 load) load)) ≡ true
    by_load true = hex (drop 4 load) (AreBytes-drop 4 load fit) (omega (arith, length-drop 4 load))
    by_load false = hex load fit small
