-- What trimming and hashing answer of a file that has the frames.
use Rattle.std.proofs.Common.{◌≡◌, ◌≤◌, ℕ, List, length, Option, Result, Err, refl, sym, ap, ◌∙◌, inl, inr, arith}
use Rattle.gfx_types.specs.declared.frame.Frame.{Frame}
use Rattle.gfx_io.specs.Causes.{Rose}
use Rattle.gfx_grammar.specs.Reads.{AreBytes}
use Rattle.sha2.specs.Sha256.{sha256}
use Rattle.gfx_digest.specs.declared.digest.Digested.{Digested}
use Rattle.gfx_digest.specs.Digests.{Digests, IsDigest}
use Rattle.gfx_digest.specs.Images.{image_bytes}
use Rattle.gfx_player.specs.declared.asked.Asked.TheVariants.{Between}
use Rattle.gfx_player.specs.declared.fault.PlayFault.{PlayFault}
use Rattle.gfx_player.specs.declared.fault.PlayFault.TheVariants as play
use Rattle.gfx_player.specs.Faults.{IsUnwritten}
use Rattle.gfx_trim.specs.Trims.{Answers}
use Rattle.gfx_trial.specs.Files.{HasFrames, digested}
use Rattle.gfx_trial.proofs.Files.{asked, counted, ends, is_inside, shows_last}

-- the answers with these faults
abbrev pub uncut : PlayFault → Result Unit PlayFault
uncut why = Err why

abbrev pub no_digest : PlayFault → Result Digested PlayFault
no_digest why = Err why

-- no count of faults rises that stays at 0
none_rose : Rose 0 0 → ⊥
none_rose rose = omega (arith, rose)

module _ (first last : ℕ) (bytes left : List ℕ) (shown : List Frame) (ordered : first ≤ last) (h : HasFrames first last bytes shown) (fit : AreBytes bytes) where
  pub unwritten : (why : PlayFault) (before after : Option (List ℕ)) → Answers first last before after (Err why) bytes left → (uncut why ≡ Err play.ReadFault → Rose 0 0) → IsUnwritten why
  unwritten (play.Bad fault block offset) before after a rose = let e = sym (ends first last bytes shown ordered h fit) ∙ a.end in absurd cc
  unwritten (play.NoSuchFrame low high) before after a rose =
      let i = is_inside first last bytes shown ordered h fit in
      elim a.outside [
        | inl below ↦ absurd (omega (arith, below, i.low))
        | inr above ↦ absurd (omega (arith, above, i.high))
      ]
  unwritten play.ReadFault before after a rose = absurd (none_rose (rose refl))
  unwritten play.SinkFault before after a rose = tt
  unwritten play.WantMemory before after a rose = tt

  pub unhashed : (why : PlayFault) → Digests first last (Err why) bytes left → (no_digest why ≡ Err play.ReadFault → Rose 0 0) → IsUnwritten why
  unhashed (play.Bad fault block offset) a rose = let e = sym (ends first last bytes shown ordered h fit) ∙ a.end in absurd cc
  unhashed (play.NoSuchFrame low high) a rose = let e = sym (shows_last first last bytes shown ordered h fit) ∙ a.unseen in absurd cc
  unhashed play.ReadFault a rose = absurd (none_rose (rose refl))
  unhashed play.SinkFault a rose = absurd a
  unhashed play.WantMemory a rose = tt

  pub hashed : (d : Digested) → IsDigest (Between first last) d bytes left → d ≡ digested first last shown
  hashed d is =
      let same = asked first last bytes shown ordered h fit in
      let hash : d.digest ≡ sha256 (image_bytes shown) = is.digest ∙ ap (λ fs. sha256 (image_bytes fs)) same in
      let count : d.frames ≡ (digested first last shown).frames = is.frames ∙ ap length same ∙ counted first last bytes shown ordered h in
      ap (λ (x : List ℕ). record d { digest = x }) hash ∙ ap (λ (n : ℕ). record (digested first last shown) { frames = n }) count
