-- A text of which a sink took some.
use Rattle.std.proofs.Common.{◌≡◌, ℕ, List, [], ◌++◌, Option, Result, Ok, Err, OnOk, refl, sym, subst, ◌∙◌, append_assoc}
use Rattle.std.proofs.lemmas.List.{append-nil}
use Rattle.std.specs.Io.KnownBytes.{Appends}
use Rattle.gfx_io.specs.Pieces.{AppendsPart}
use Rattle.gfx_io.proofs.Appending.{appends_none, appends_then, part_of, part_then, whole_part}

-- the sink took a first part of the text, and the rest is still to come
pub record SoFar (a b : Option (List ℕ)) (text rest : List ℕ) : Type 0 where
  pub done : List ℕ
  pub took : Appends a b done
  pub parts : text ≡ done ++ rest

pub so_far_none : (a : Option (List ℕ)) (text : List ℕ) → SoFar a a text text
so_far_none a text = record { done = []; took = appends_none a; parts = refl }

pub so_far_more : (a b c : Option (List ℕ)) (text x rest : List ℕ) → SoFar a b text (x ++ rest) → Appends b c x → SoFar a c text rest
so_far_more a b c text x rest s more = record {
  done = s.done ++ x;
  took = appends_then a b c s.done x s.took more;
  parts = s.parts ∙ sym (append_assoc s.done x rest);
}

pub so_far_part : (a b c : Option (List ℕ)) (text x rest : List ℕ) → SoFar a b text (x ++ rest) → AppendsPart b c x → AppendsPart a c text
so_far_part a b c text x rest s more =
    subst (AppendsPart a c) (append_assoc s.done x rest ∙ sym s.parts) (part_of a c (s.done ++ x) rest (part_then a b c s.done x s.took more))

pub so_far_front : (a b : Option (List ℕ)) (text rest : List ℕ) → SoFar a b text rest → AppendsPart a b text
so_far_front a b text rest s = subst (AppendsPart a b) (sym s.parts) (part_of a b s.done rest (whole_part a b s.done s.took))

pub so_far_all : (a b : Option (List ℕ)) (text : List ℕ) → SoFar a b text [] → Appends a b text
so_far_all a b text s = subst (Appends a b) (sym (s.parts ∙ append-nil s.done)) s.took

-- ---- what holds where a call was done

pub on_ok : {T E : Type 0} (r : Result T E) (P Q : Type 0) → (P → Q) → OnOk r P → OnOk r Q
on_ok (Ok x) P Q f p = f p
on_ok (Err e) P Q f p = p
