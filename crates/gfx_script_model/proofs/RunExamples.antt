-- Examples of runs of scripts.
use Rattle.std.proofs.Common.{◌≡◌, ℕ, zero, suc, ◌==◌, if◌then◌else◌, List, [], ◌∷◌, take, Option, Some, None, refl, sym, ◌∙◌, arith, inr}
use Rattle.gfx_script_model.proofs.Opened.{all}
use Rattle.gfx_model.specs.Events.Event.{CreateInstance, DestroyInstance}
use Rattle.gfx_script_model.specs.Scripts.{Line, Part}
use Rattle.gfx_script_model.specs.Runs.{Entry, Runs, Matches, Stopped, Safe, lines_of_phase}
use Rattle.gfx_model.proofs.ExampleCaptures.{f1, region}
use Rattle.gfx_script_model.specs.Runs.{log_length}
use Rattle.gfx_model.specs.Events.{Event}
use Rattle.gfx_model.specs.Events.Event.{CmdCopyBufferToImage}
use Rattle.std.proofs.Common.{◌+◌, ◌++◌, map, drop}

-- one thread makes an instance, and ends it twice
lines : List Line
lines = record { number = 3; event = CreateInstance 1 1 } ∷ record { number = 4; event = DestroyInstance 1 } ∷ record { number = 5; event = DestroyInstance 1 } ∷ []

script : ℕ → List (List Part)
script n = (record { thread = 2; lines = take n lines } ∷ []) ∷ []

-- the log in which the instance has id 9
log : List Entry
log = record { thread = 2; event = CreateInstance 9 1 } ∷ record { thread = 2; event = DestroyInstance 9 } ∷ []

-- the one name stands for id 9
given : ℕ → ℕ
given k = if k == 0 then 0 else 9

-- a log of all lines
ex_matches : Matches 1 (script 2) log
unfolding all lines script log given
ex_matches = record {
  ids = given;
  pieces = log ∷ [];
  cut = refl;
  count = refl;
  are_ids = record { none = refl; positive = refl; distinct = refl };
  are = record { is_piece = record { threads = refl; prefixes = (refl, tt) }; all = (refl, tt) };
}

-- a log of some lines
some : Runs 1 (script 3) log 1
unfolding all lines script log given
some = record {
  ids = given;
  pieces = log ∷ [];
  cut = refl;
  count = refl;
  are_ids = record { none = refl; positive = refl; distinct = refl };
  are = record { threads = refl; prefixes = (refl, tt) };
}

-- the instance that ended is not ended again: thread 2 is stopped after both entries
ex_stopped : Stopped 1 (script 3) log 1 2 log
unfolding all lines script log given some
ex_stopped = record {
  run = some;
  run_before = some;
  rest = [];
  is_prefix = refl;
  line = record { number = 5; event = DestroyInstance 1 };
  next = refl;
  next_before = refl;
  event = DestroyInstance 9;
  is_call = record { ids = given; none = refl; known = (refl, tt); positive = refl; distinct = refl; unused = refl; same = refl };
  refused = inr (omega arith, refl);
}

-- a script without lines is safe
no_line : (q t n : ℕ) → Rattle.std.specs.Prelude.slice_get (lines_of_phase [] q t) n ≡ None
no_line zero t n = refl
no_line (suc q) t n = refl

ex_safe : Safe 1 []
ex_safe log q t run line event valid next call =
    let none : ◌≡◌ {A = Option Line} None (Some line) = sym (no_line q t _) ∙ next in absurd cc

-- ---- the script of the smallest capture, whose names have the numbers of its ids

numbered : ℕ → List Event → List Line
numbered n [] = []
numbered n (e ∷ es) = record { number = n; event = e } ∷ numbered (n + 1) es

one_thread : List Event → List (List Part)
one_thread es = (record { thread = 0; lines = numbered 3 es } ∷ []) ∷ []

logged : List Event → List Entry
logged es = map (λ e. record { thread = 0; event = e }) es

ex_f1_matches : Matches 1 (one_thread f1) (logged f1)
unfolding all numbered one_thread logged
ex_f1_matches = record {
  ids = λ k. k;
  pieces = logged f1 ∷ [];
  cut = refl;
  count = refl;
  are_ids = record { none = refl; positive = refl; distinct = refl };
  are = record { is_piece = record { threads = refl; prefixes = (refl, tt) }; all = (refl, tt) };
}

ex_f1_bytes : log_length 1 (logged f1) ≡ 1131
unfolding all logged
ex_f1_bytes = refl

ex_f1_bytes_2 : log_length 2 (logged f1) ≡ 1135
unfolding all logged
ex_f1_bytes_2 = refl

-- line 19 copies a region that is too wide: the thread is stopped after 16 blocks
too_wide : List Event
too_wide = take 16 f1 ++ CmdCopyBufferToImage 11 9 6 7 (region 4 1 ∷ []) ∷ drop 17 f1

wide_run : Runs 1 (one_thread too_wide) (logged (take 16 f1)) 1
unfolding all numbered one_thread logged too_wide
wide_run = record {
  ids = λ k. k;
  pieces = logged (take 16 f1) ∷ [];
  cut = refl;
  count = refl;
  are_ids = record { none = refl; positive = refl; distinct = refl };
  are = record { threads = refl; prefixes = (refl, tt) };
}

ex_wide_stopped : Stopped 1 (one_thread too_wide) (logged (take 16 f1)) 1 0 (logged (take 16 f1))
unfolding all numbered one_thread logged too_wide wide_run
ex_wide_stopped = record {
  run = wide_run;
  run_before = wide_run;
  rest = [];
  is_prefix = refl;
  line = record { number = 19; event = CmdCopyBufferToImage 11 9 6 7 (region 4 1 ∷ []) };
  next = refl;
  next_before = refl;
  event = CmdCopyBufferToImage 11 9 6 7 (region 4 1 ∷ []);
  is_call = record { ids = λ k. k; none = refl; known = (refl, (refl, (refl, tt))); positive = refl; distinct = refl; unused = refl; same = refl };
  refused = inr (omega arith, refl);
}

ex_wide_bytes : log_length 1 (logged (take 16 f1)) ≡ 783
unfolding all logged
ex_wide_bytes = refl
