-- Frames that are shown one after another, and how showing ends.
use Rattle.std.proofs.Common.{◌≡◌, ◌+◌, ◌-◌, codes, ℕ, Bool, true, false, List, [], ◌∷◌, ◌++◌, length, Option, Result, Ok, Err, refl, sym, ap, subst, ◌∙◌, arith}
use Rattle.std.specs.Prelude.{OnOk, IfErr}
use Rattle.std.specs.Io.KnownBytes.{Appends}
use Rattle.gfx_io.specs.Pieces.{AppendsPart}
use Rattle.gfx_io.specs.Told.{IfTold}
use Rattle.gfx_types.specs.declared.frame.Frame.{Frame}
use Rattle.gfx_model.specs.Blocks.{minor_of}
use Rattle.gfx_model.specs.Text.{count_line}
use Rattle.gfx_io.proofs.Appending.{appends_none, appends_then, part_then, whole_part}
use Rattle.gfx_replay.specs.Replayer.{bytes_of}
use Rattle.gfx_replay.specs.Shown.{frame_of}
use Rattle.gfx_replay.specs.declared.shown.ShownFrame.{ShownFrame}
use Rattle.gfx_decode.proofs.Told.{told_if}
use Rattle.gfx_player.specs.declared.asked.Asked.{Asked}
use Rattle.gfx_player.specs.declared.asked.Asked.TheVariants as asked
use Rattle.gfx_player.specs.declared.fault.PlayFault.{PlayFault}
use Rattle.gfx_player.specs.declared.fault.PlayFault.TheVariants as play
use Rattle.gfx_player.specs.declared.player.Player.{Player}
use Rattle.gfx_player.specs.Asked.{asked_of, has_last, is_asked, is_last}
use Rattle.gfx_player.specs.Ends.{IsBehindFrame, IsStopped}
use Rattle.gfx_player.specs.Faults.{IsUnwritten}
use Rattle.gfx_player.specs.Meanings.{frames_in}
use Rattle.gfx_player.specs.Walks.{HasAll, Plays, ShowsNext, first_frame_of, next_frame_of}
use Rattle.gfx_player.proofs.Asking.{behind_last, count_more, last_more, one_if}
use Rattle.gfx_player.proofs.Later.{LastShown, last_shown, never_last}
use Rattle.gfx_player.proofs.Playing.{first_is, highest_is, lowest_is, plays_first, told_beside}
use Rattle.gfx_play.specs.declared.screen.Screen.{Screen}
use Rattle.gfx_play.specs.Screens.{lines_of, text_by}
use Rattle.gfx_play.specs.Shows.{Answers, EndsOnly, IsRange, IsShown, IsWithout, Leaves, MayMiss, text_in}
use Rattle.gfx_play.proofs.Lines.{lines_front, lines_in_version, lines_none, lines_then, listing_of, text_part, text_whole}

-- these frames were shown and what is asked for of them was written; the last that is asked for is among them or isn't
pub record Showing (a : Asked) (pixels : Bool) (p : Player) (s : Screen) (shown : List Frame) (seen : Bool) (file left before after : Option (List ℕ)) : Type 0 where
  pub plays : Plays p shown file left
  pub asked : s.asked ≡ a
  pub listing : s.listing ≡ listing_of p.minor pixels
  pub count : s.count ≡ length (asked_of a shown)
  pub last : has_last a shown ≡ seen
  pub text : Appends before after (lines_of (listing_of p.minor pixels) (asked_of a shown))

-- ---- one frame more

pub shown_none : (a : Asked) (pixels : Bool) (p : Player) (s : Screen) (file left taken : Option (List ℕ)) → Plays p [] file left → s.asked ≡ a → s.listing ≡ listing_of p.minor pixels → s.count ≡ 0 →
    Showing a pixels p s [] false file left taken taken
shown_none a pixels p s file left taken plays asked listing count = record {
  plays = plays;
  asked = asked;
  listing = listing;
  count = count;
  last = refl;
  text = subst (Appends taken taken) (sym (lines_none (listing_of p.minor pixels))) (appends_none taken);
}

-- what a screen does with a frame
pub record Counts (old new : Screen) (p : Player) (f : ShownFrame) (answer : Bool) : Type 0 where
  pub asked : new.asked ≡ old.asked
  pub listing : new.listing ≡ old.listing
  pub count : new.count ≡ old.count + one_if (is_asked old.asked (first_frame_of p) f.number)
  pub last : answer ≡ is_last old.asked (first_frame_of p) f.number

pub shown_more : (a : Asked) (pixels : Bool) (was p : Player) (old new : Screen) (shown : List Frame) (f : ShownFrame) (last : Bool) (file left rest before middle after : Option (List ℕ)) →
    Showing a pixels was old shown false file left before middle → ShowsNext p shown f file rest → p.minor ≡ was.minor → Counts old new p f last → Appends middle after (text_by old p f) →
    Showing a pixels p new (shown ++ frame_of (bytes_of p.replayer) f ∷ []) last file rest before after
shown_more a pixels was p old new shown f last file left rest before middle after s next minor c wrote =
    let g = frame_of (bytes_of p.replayer) f in
    let first = first_is p shown g file rest next.plays in
    let listed = s.listing ∙ ap (λ m. listing_of m pixels) (sym minor) in
    record {
      plays = next.plays;
      asked = c.asked ∙ s.asked;
      listing = c.listing ∙ listed;
      count = c.count ∙ ap (λ n. n + one_if (is_asked old.asked (first_frame_of p) f.number)) s.count
          ∙ ap (λ a'. length (asked_of a shown) + one_if (is_asked a' (first_frame_of p) f.number)) s.asked
          ∙ ap (λ n. length (asked_of a shown) + one_if (is_asked a n f.number)) first
          ∙ count_more a shown g;
      last = last_more a shown g s.last ∙ sym (c.last ∙ ap (λ a. is_last a (first_frame_of p) f.number) s.asked ∙ ap (λ n. is_last a n f.number) first);
      text = subst (Appends before after) (lines_then a old (listing_of p.minor pixels) p shown f file rest next.plays s.asked listed)
          (appends_then before middle after _ _ (subst (λ m. Appends before middle (lines_of (listing_of m pixels) (asked_of a shown))) (sym minor) s.text) wrote);
    }

-- ---- a frame that isn't written whole

pub write_fails : (a : Asked) (pixels : Bool) (why : PlayFault) (before after : Option (List ℕ)) (all rest : List ℕ) → IsUnwritten why → AppendsPart before after (text_in a pixels all) →
    Answers a pixels before after (Err why) all rest
write_fails a pixels (play.Bad fault block offset) before after all rest is part = absurd is
write_fails a pixels (play.NoSuchFrame first last) before after all rest is part = absurd is
write_fails a pixels play.ReadFault before after all rest is part = absurd is
write_fails a pixels play.SinkFault before after all rest is part = part
write_fails a pixels play.WantMemory before after all rest is part = part

pub show_fails : (a : Asked) (pixels : Bool) (was p : Player) (old : Screen) (shown : List Frame) (f : ShownFrame) (why : PlayFault) (file left rest before middle after : Option (List ℕ)) →
    Showing a pixels was old shown false file left before middle → ShowsNext p shown f file rest → p.minor ≡ was.minor → IsUnwritten why → AppendsPart middle after (text_by old p f) →
    IfTold file rest (Answers a pixels before after (Err why))
show_fails a pixels was p old shown f why file left rest before middle after s next minor unwritten wrote =
    let all_shown = shown ++ frame_of (bytes_of p.replayer) f ∷ [] in
    let listed = s.listing ∙ ap (λ m. listing_of m pixels) (sym minor) in
    let part : AppendsPart before after (lines_of (listing_of p.minor pixels) (asked_of a all_shown)) =
    subst (AppendsPart before after) (lines_then a old (listing_of p.minor pixels) p shown f file rest next.plays s.asked listed)
    (part_then before middle after _ _ (subst (λ m. Appends before middle (lines_of (listing_of m pixels) (asked_of a shown))) (sym minor) s.text) wrote) in
    told_if file rest _ (Answers a pixels before after (Err why)) (plays_first p all_shown file rest next.plays)
    (λ all rest is. write_fails a pixels why before after all rest unwritten
    (lines_front a pixels all_shown all before after is.0 (subst (λ m. AppendsPart before after (lines_of (listing_of m pixels) (asked_of a all_shown))) is.1 part)))

-- ---- no further frame comes

pub stops : (a : Asked) (pixels : Bool) (shown : List Frame) (why : PlayFault) (before after : Option (List ℕ)) (all rest : List ℕ) → has_last a shown ≡ false →
    Appends before after (lines_of (listing_of (minor_of all) pixels) (asked_of a shown)) → IsStopped shown why all rest → Answers a pixels before after (Err why) all rest
stops a pixels shown (play.Bad fault block offset) before after all rest unseen text s = record {
  end = s.stops.ends;
  unseen = ap (has_last a) s.stops.shows ∙ unseen;
  text = subst (λ fs. Appends before after (lines_of (listing_of (minor_of all) pixels) (asked_of a fs))) (sym s.stops.shows) text;
}
stops a pixels shown (play.NoSuchFrame first last) before after all rest unseen text s = absurd s.stops
stops a pixels shown play.ReadFault before after all rest unseen text s =
    let c = s.stops in
    record {
      given = c.given;
      parts = c.parts;
      cut = c.cut;
      lawful = c.lawful;
      unseen = ap (has_last a) c.shows ∙ unseen;
      text = subst (λ fs. Appends before after (lines_of (listing_of (minor_of c.given) pixels) (asked_of a fs))) (sym c.shows)
          (subst (Appends before after) (sym (lines_in_version a pixels (minor_of c.given) (minor_of all) shown c.minor)) text);
      front = lines_front a pixels shown all before after s.first (whole_part before after _ text);
    }
stops a pixels shown play.SinkFault before after all rest unseen text s = absurd s.stops
stops a pixels shown play.WantMemory before after all rest unseen text s = lines_front a pixels shown all before after s.first (whole_part before after _ text)

pub open_fails : (a : Asked) (pixels : Bool) (why : PlayFault) (file rest taken : Option (List ℕ)) → IfTold file rest (IsStopped [] why) → IfTold file rest (Answers a pixels taken taken (Err why))
open_fails a pixels why file rest taken told =
    told_if file rest (IsStopped [] why) (Answers a pixels taken taken (Err why)) told
    (λ all rest s. stops a pixels [] why taken taken all rest refl (subst (Appends taken taken) (sym (lines_none (listing_of (minor_of all) pixels))) (appends_none taken)) s)

pub next_fails : (a : Asked) (pixels : Bool) (p : Player) (s : Screen) (shown : List Frame) (why : PlayFault) (file left rest before after : Option (List ℕ)) →
    Showing a pixels p s shown false file left before after → IfTold file rest (IsStopped shown why) → IfTold file rest (Answers a pixels before after (Err why))
next_fails a pixels p s shown why file left rest before after w told =
    told_beside file left rest _ (IsStopped shown why) (Answers a pixels before after (Err why)) (plays_first p shown file left w.plays) told
    (λ all left rest is stopped. stops a pixels shown why before after all rest w.last (subst (λ m. Appends before after (lines_of (listing_of m pixels) (asked_of a shown))) is.1 w.text) stopped)

-- ---- behind the last frame that is asked for

done : (a : Asked) (pixels : Bool) (shown : List Frame) (f : Frame) (before after : Option (List ℕ)) (all rest : List ℕ) → has_last a shown ≡ false → has_last a (shown ++ f ∷ []) ≡ true →
    LastShown a (shown ++ f ∷ []) (frames_in all) → IsBehindFrame shown f all rest → Appends before after (text_in a pixels all) → IsShown a pixels before after all × Leaves a all rest
done asked.All pixels shown f before after all rest unseen there l behind text = absurd (never_last (shown ++ f ∷ []) there)
done (asked.Between x y) pixels shown f before after all rest unseen there l behind text = (
  record { complete = l.last; text = text },
  behind_last (asked.Between x y) shown f all rest behind unseen there,
)

pub shown_last : (a : Asked) (pixels : Bool) (p : Player) (s : Screen) (shown : List Frame) (f : Frame) (r : Result Unit PlayFault) (file rest before middle after : Option (List ℕ)) → has_last a shown ≡ false →
    Showing a pixels p s (shown ++ f ∷ []) true file rest before middle → IfTold file rest (IsBehindFrame shown f) → OnOk r (Appends middle after (count_line (codes "frames") s.count)) →
    AppendsPart middle after (count_line (codes "frames") s.count) → IfErr r IsUnwritten → IfTold file rest (Answers a pixels before after r)
shown_last a pixels p s shown f r file rest before middle after unseen w behind ok front err =
    told_beside file rest rest _ (λ all rest. LastShown a (shown ++ f ∷ []) (frames_in all) × IsBehindFrame shown f all rest) (Answers a pixels before after r) (plays_first p (shown ++ f ∷ []) file rest w.plays)
    (told_beside file rest rest _ (IsBehindFrame shown f) (λ all rest. LastShown a (shown ++ f ∷ []) (frames_in all) × IsBehindFrame shown f all rest) (last_shown a p (shown ++ f ∷ []) file rest w.plays w.last) behind (λ all left rest l b. (l, b)))
    (λ all left rest is both. by r ok err all rest both.0 both.1 (subst (λ m. Appends before middle (lines_of (listing_of m pixels) (asked_of a (shown ++ f ∷ [])))) is.1 w.text))
  where
    by : (r : Result Unit PlayFault) → OnOk r (Appends middle after (count_line (codes "frames") s.count)) → IfErr r IsUnwritten → (all rest : List ℕ) → LastShown a (shown ++ f ∷ []) (frames_in all) →
        IsBehindFrame shown f all rest → Appends before middle (lines_of (listing_of (minor_of all) pixels) (asked_of a (shown ++ f ∷ []))) → Answers a pixels before after r all rest
    by (Ok tt) ok err all rest l b text =
        done a pixels shown f before after all rest unseen w.last l b (text_whole a pixels (shown ++ f ∷ []) s.count all before middle after l.asked w.count text ok)
    by (Err why) ok err all rest l b text =
        write_fails a pixels why before after all rest err (text_part a pixels (shown ++ f ∷ []) s.count all before middle after l.asked w.count text front)

-- ---- at the clean end of the file

pub shown_end : (a : Asked) (pixels : Bool) (was p : Player) (s : Screen) (shown : List Frame) (r : Result Unit PlayFault) (file left rest before middle after : Option (List ℕ)) →
    Showing a pixels was s shown false file left before middle → IfTold file rest (HasAll p shown) →
    OnOk r ((s.asked ≡ asked.All) × Appends middle after (count_line (codes "frames") s.count)) →
    ((first last : ℕ) → r ≡ Err (play.NoSuchFrame first last) → (after ≡ middle) × (first ≡ first_frame_of p) × (last ≡ next_frame_of p - 1)) →
    AppendsPart middle after (count_line (codes "frames") s.count) → IfErr r (EndsOnly s.asked) → IfTold file rest (Answers a pixels before after r)
shown_end a pixels was p s shown r file left rest before middle after w told ok without front err =
    told_beside file left rest _ (HasAll p shown) (Answers a pixels before after r) (plays_first was shown file left w.plays) told
    (λ all left rest is h. by r ok without err all rest h (subst (λ m. Appends before middle (lines_of (listing_of m pixels) (asked_of a shown))) is.1 w.text))
  where
    whole : (all rest : List ℕ) → HasAll p shown all rest → AppendsPart middle after (count_line (codes "frames") s.count) →
        Appends before middle (lines_of (listing_of (minor_of all) pixels) (asked_of a shown)) → AppendsPart before after (text_in a pixels all)
    whole all rest h part text = text_part a pixels shown s.count all before middle after (ap (asked_of a) h.just.shows) w.count text part

    all_shown : (all rest : List ℕ) → HasAll p shown all rest → (b : Asked) → b ≡ asked.All → b ≡ a → Appends before after (text_in a pixels all) → IsShown a pixels before after all × Leaves a all rest
    all_shown all rest h b every same text =
        subst (λ a. Appends before after (text_in a pixels all) → IsShown a pixels before after all × Leaves a all rest) (sym every ∙ same)
        (λ text. (record { complete = h.just.ends; text = text }, h.read)) text

    by : (r : Result Unit PlayFault) → OnOk r ((s.asked ≡ asked.All) × Appends middle after (count_line (codes "frames") s.count)) →
        ((first last : ℕ) → r ≡ Err (play.NoSuchFrame first last) → (after ≡ middle) × (first ≡ first_frame_of p) × (last ≡ next_frame_of p - 1)) → IfErr r (EndsOnly s.asked) →
        (all rest : List ℕ) → HasAll p shown all rest → Appends before middle (lines_of (listing_of (minor_of all) pixels) (asked_of a shown)) → Answers a pixels before after r all rest
    by (Ok tt) ok without err all rest h text =
        all_shown all rest h s.asked ok.0 w.asked (text_whole a pixels shown s.count all before middle after (ap (asked_of a) h.just.shows) w.count text ok.1)
    by (Err (play.Bad fault block offset)) ok without err all rest h text = absurd err
    by (Err (play.NoSuchFrame first last)) ok without err all rest h text =
        let x = without first last refl in
        subst (λ t. IsWithout a pixels before t first last all rest) (sym x.0) record {
          range = subst IsRange w.asked err;
          end = h.just.ends;
          unseen = ap (has_last a) h.just.shows ∙ w.last;
          first_is = x.1 ∙ lowest_is p shown all rest h;
          last_is = x.2 ∙ highest_is p shown all rest h;
          text = subst (λ fs. Appends before middle (lines_of (listing_of (minor_of all) pixels) (asked_of a fs))) (sym h.just.shows) text;
          read = h.read;
        }
    by (Err play.ReadFault) ok without err all rest h text = absurd err
    by (Err play.SinkFault) ok without err all rest h text = whole all rest h front text
    by (Err play.WantMemory) ok without err all rest h text = whole all rest h front text

-- only a range may lack a frame
pub end_misses : (a b : Asked) (r : Result Unit PlayFault) → b ≡ a → IfErr r (EndsOnly b) → IfErr r (MayMiss a)
end_misses a b r same err = grind arith
