-- Examples of scripts.
use Rattle.gfx_script_model.proofs.Opened.{all}
use Rattle.gfx_model.specs.Events.Event.{AllocateCommandBuffers, CmdPipelineBarrier, CreateInstance, FillMemory, QueuePresentKHR, QueueSubmit}
use Rattle.gfx_script_model.specs.Statements.{statement_tokens, tokens_of}
use Rattle.std.proofs.Common.{arith, inl}
use Rattle.std.specs.Prelude.{[], codes, refl, false, slice_get, unwrap_or, zero, suc, ◌∷◌, ◌||◌, ◌≡◌}
use Prim.Native.String.{String}
use Rattle.gfx_script_model.specs.Ids.{map_ids}
use Rattle.gfx_script_model.specs.Names.{code, is_code, name_of}
use Rattle.gfx_script_model.specs.Statements.{IsStatement}
use Rattle.gfx_model.specs.Events.Event.{DeviceWaitIdle}
use Rattle.gfx_script_model.specs.Statements.Form.{skips, sets_version, begins_phase, begins_thread, states}
use Rattle.gfx_script_model.specs.Scripts.{Outcome, Reading, Parses, at_first}
use Rattle.gfx_script_model.specs.Scripts.Outcome.{refuses}
use Rattle.gfx_script_model.specs.Scripts.Kind.{structure, name_taken, name_unknown, bad_byte}
use Rattle.gfx_script_model.specs.Scripts.Parsed.{parses, fails}
use Rattle.gfx_model.proofs.ExampleCaptures.{f1}
use Rattle.std.specs.Prelude.{ℕ, List, map}
use Rattle.gfx_script_model.specs.Scripts.{Line, outcome_of}
use Rattle.gfx_script_model.specs.Statements.{IsForm}
use Rattle.gfx_model.specs.Events.Event.{DestroyInstance}

-- the id that a name stands for
abbrev id : String → ℕ
id name = code (codes name)

-- a name of 32 bytes comes back from its code, and one of 33 bytes is none
ex_name_32 : name_of (id "a_name_of_thirty_two_letters_abc") ≡ codes "a_name_of_thirty_two_letters_abc"
unfolding all
ex_name_32 = refl

ex_name_33 : is_code (id "a_name_of_thirty_three_letters_ab") ≡ false
unfolding all
ex_name_33 = refl

-- 0 is no name, nor is a word that begins with a digit
ex_no_name : is_code 0 || is_code (id "0a") ≡ false
unfolding all
ex_no_name = refl

ex_create : tokens_of (codes "inst = vkCreateInstance  api=4194304 ") ≡ statement_tokens 1 (CreateInstance (id "inst") 4194304)
unfolding all
ex_create = refl

ex_barrier : tokens_of (codes "vkCmdPipelineBarrier cb=cb barriers=[(img,0,7)]") ≡ statement_tokens 1 (CmdPipelineBarrier (id "cb") (record { image = id "img"; before = 0; after = 7 } ∷ []))
unfolding all
ex_barrier = refl

ex_allocate : tokens_of (codes "a,b = vkAllocateCommandBuffers device=dev pool=p") ≡ statement_tokens 1 (AllocateCommandBuffers (id "dev") (id "p") (id "a" ∷ id "b" ∷ []))
unfolding all
ex_allocate = refl

ex_submit : tokens_of (codes "vkQueueSubmit queue=q submits=[([],[cb],[])] fence=0") ≡ statement_tokens 1 (QueueSubmit (id "q") (record { waits = []; cbs = id "cb" ∷ []; signals = [] } ∷ []) 0)
unfolding all
ex_submit = refl

ex_write : tokens_of (codes "write memory=mem offset=0 bytes=616263") ≡ statement_tokens 1 (FillMemory (id "mem") 0 (97 ∷ 98 ∷ 99 ∷ []))
unfolding all
ex_write = refl

ex_present : tokens_of (codes "vkQueuePresentKHR queue=q waits=[] swapchain=sc index=0") ≡ statement_tokens 1 (QueuePresentKHR (id "q") [] (record { swapchain = id "sc"; index = 0 } ∷ []))
unfolding all
ex_present = refl

-- ---- whole texts

ex_version_first : Parses (codes "# 2\nversion 2\nphase") (parses 2 ([] ∷ []))
unfolding all
ex_version_first = (
  Outcome.reads at_first,
  inl (skips, refl, refl),
  (
    Outcome.reads (record { minor = 2; phases = []; names = [] }),
    inl (sets_version, refl, refl),
    (Outcome.reads (record { minor = 2; phases = [] ∷ []; names = [] }), inl (begins_phase, refl, refl), refl),
  ),
)

ex_version_late : Parses (codes "phase\nversion 2\n") (fails 2 structure)
unfolding all
ex_version_late = (
  Outcome.reads (record { minor = 1; phases = [] ∷ []; names = [] }),
  inl (begins_phase, refl, refl),
  (refuses structure, inl (sets_version, refl, refl), refl),
)

ex_version_twice : Parses (codes "version 2\nversion 2") (fails 2 structure)
unfolding all
ex_version_twice = (
  Outcome.reads (record { minor = 2; phases = []; names = [] }),
  inl (sets_version, refl, refl),
  (refuses structure, inl (sets_version, refl, refl), refl),
)

one_name : IsStatement 1 (tokens_of (codes "a = vkCreateInstance api=1")) (CreateInstance (id "a") 1)
unfolding all
one_name = record { written = refl; fits = (refl, (omega arith, tt)); version = tt; same = refl }

wait_for_d : IsStatement 1 (tokens_of (codes "vkDeviceWaitIdle device=d")) (DeviceWaitIdle (id "d"))
unfolding all
wait_for_d = record { written = refl; fits = (refl, tt); version = tt; same = refl }

begun : Reading
begun = record { minor = 1; phases = (record { thread = 0; lines = [] } ∷ []) ∷ []; names = [] }

defined : Reading
defined = record {
  minor = 1;
  phases = (record { thread = 0; lines = record { number = 3; event = CreateInstance 1 1 } ∷ [] } ∷ []) ∷ [];
  names = record { name = codes "a"; phase = 1; thread = 0 } ∷ [];
}

-- a name that is defined twice
ex_taken : Parses (codes "phase\nthread 0\na = vkCreateInstance api=1\na = vkCreateInstance api=1\n") (fails 4 name_taken)
unfolding all begun defined
ex_taken = (
  Outcome.reads (record { minor = 1; phases = [] ∷ []; names = [] }),
  inl (begins_phase, refl, refl),
  (
    Outcome.reads begun,
    inl (begins_thread 0, (omega arith, refl), refl),
    (
      Outcome.reads defined,
      inl (states (CreateInstance (id "a") 1), one_name, refl),
      (refuses name_taken, inl (states (CreateInstance (id "a") 1), one_name, refl), refl),
    ),
  ),
)

-- a call before any thread, a thread without a phase, a name that nothing defines, and a byte that is not printed
ex_structure : Parses (codes "phase\nvkDeviceWaitIdle device=d") (fails 2 structure)
unfolding all
ex_structure = (
  Outcome.reads (record { minor = 1; phases = [] ∷ []; names = [] }),
  inl (begins_phase, refl, refl),
  (refuses structure, inl (states (DeviceWaitIdle (id "d")), wait_for_d, refl), refl),
)

ex_no_phase : Parses (codes "thread 0") (fails 1 structure)
unfolding all
ex_no_phase = (refuses structure, inl (begins_thread 0, (omega arith, refl), refl), refl)

ex_unknown : Parses (codes "phase\nthread 0\nvkDeviceWaitIdle device=d") (fails 3 name_unknown)
unfolding all begun
ex_unknown = (
  Outcome.reads (record { minor = 1; phases = [] ∷ []; names = [] }),
  inl (begins_phase, refl, refl),
  (
    Outcome.reads begun,
    inl (begins_thread 0, (omega arith, refl), refl),
    (refuses name_unknown, inl (states (DeviceWaitIdle (id "d")), wait_for_d, refl), refl),
  ),
)

ex_byte : Parses (9 ∷ []) (fails 1 bad_byte)
unfolding all
ex_byte = (refuses bad_byte, refl, refl)

-- the present of a script in version 2
ex_present_2 : tokens_of (codes "vkQueuePresentKHR queue=q waits=[] presents=[(sc,0)]") ≡ statement_tokens 2 (QueuePresentKHR (id "q") [] (record { swapchain = id "sc"; index = 0 } ∷ []))
unfolding all
ex_present_2 = refl

-- the statements of a script whose names are numbered as the ids of the smallest capture are
names_of_f1 : List (List ℕ)
names_of_f1 = codes "inst" ∷ codes "surf" ∷ codes "dev" ∷ codes "q" ∷ codes "sc" ∷ codes "img" ∷ codes "f" ∷ codes "mem" ∷ codes "buf" ∷ codes "pool" ∷ codes "cb" ∷ []

-- the code of the name with this number, and 0 for 0
name_code : ℕ → ℕ
name_code zero = 0
name_code (suc k) = code (unwrap_or (slice_get names_of_f1 k) [])

ex_statements : map (λ e. statement_tokens 1 (map_ids name_code e)) f1 ≡ map tokens_of (
    codes "inst = vkCreateInstance api=4194304" ∷
    codes "surf = vkCreateHeadlessSurfaceEXT instance=inst" ∷
    codes "dev = vkCreateDevice instance=inst" ∷
    codes "q = vkGetDeviceQueue device=dev" ∷
    codes "sc = vkCreateSwapchainKHR device=dev surface=surf images=1 format=13 width=3 height=1 usage=3" ∷
    codes "img = vkGetSwapchainImagesKHR device=dev swapchain=sc" ∷
    codes "f = vkCreateFence device=dev flags=0" ∷
    codes "mem = vkAllocateMemory device=dev size=64" ∷
    codes "vkMapMemory device=dev memory=mem offset=0 size=18446744073709551615" ∷
    codes "write memory=mem offset=0 bytes=616263" ∷
    codes "buf = vkCreateBuffer device=dev size=16 usage=1" ∷
    codes "vkBindBufferMemory device=dev buffer=buf memory=mem offset=0" ∷
    codes "pool = vkCreateCommandPool device=dev flags=2" ∷
    codes "cb = vkAllocateCommandBuffers device=dev pool=pool" ∷
    codes "vkBeginCommandBuffer cb=cb flags=0" ∷
    codes "vkCmdPipelineBarrier cb=cb barriers=[(img,0,7)]" ∷
    codes "vkCmdCopyBufferToImage cb=cb source=buf target=img layout=7 regions=[(0,0,0,0,0,3,1)]" ∷
    codes "vkCmdPipelineBarrier cb=cb barriers=[(img,7,1000001002)]" ∷
    codes "vkEndCommandBuffer cb=cb" ∷
    codes "vkAcquireNextImageKHR device=dev swapchain=sc semaphore=0 fence=f index=0 answer=0" ∷
    codes "vkQueueSubmit queue=q submits=[([],[cb],[])] fence=0" ∷
    codes "vkQueuePresentKHR queue=q waits=[] swapchain=sc index=0" ∷ [])
unfolding all names_of_f1 name_code
ex_statements = refl

-- thread numbers end at 63
ex_thread_64 : IsForm 1 (tokens_of (codes "thread 64")) (begins_thread 64) → ⊥
ex_thread_64 f = absurd (omega (arith, f.0))

-- a name of another thread is known in the next phase, and not in the same one
one_end : IsStatement 1 (tokens_of (codes "vkDestroyInstance instance=a")) (DestroyInstance (id "a"))
unfolding all
one_end = record { written = refl; fits = (refl, tt); version = tt; same = refl }

ex_same_phase : Parses (codes "phase\nthread 0\na = vkCreateInstance api=1\nthread 1\nvkDestroyInstance instance=a") (fails 5 name_unknown)
unfolding all begun defined
ex_same_phase = (
  Outcome.reads (record { minor = 1; phases = [] ∷ []; names = [] }),
  inl (begins_phase, refl, refl),
  (
    Outcome.reads begun,
    inl (begins_thread 0, (omega arith, refl), refl),
    (
      Outcome.reads defined,
      inl (states (CreateInstance (id "a") 1), one_name, refl),
      (
        outcome_of 4 defined (begins_thread 1),
        inl (begins_thread 1, (omega arith, refl), refl),
        (refuses name_unknown, inl (states (DestroyInstance (id "a")), one_end, refl), refl),
      ),
    ),
  ),
)

made_in_0 : Line
made_in_0 = record { number = 3; event = CreateInstance 1 1 }

ended_in_1 : Line
ended_in_1 = record { number = 6; event = DestroyInstance 1 }

third : Reading
third = record defined { phases = [] ∷ defined.phases }

fourth : Reading
fourth = record defined { phases = (record { thread = 1; lines = [] } ∷ []) ∷ defined.phases }

ex_next_phase : Parses (codes "phase\nthread 0\na = vkCreateInstance api=1\nphase\nthread 1\nvkDestroyInstance instance=a")
    (parses 1 ((record { thread = 0; lines = made_in_0 ∷ [] } ∷ []) ∷ (record { thread = 1; lines = ended_in_1 ∷ [] } ∷ []) ∷ []))
unfolding all begun defined third fourth made_in_0 ended_in_1
ex_next_phase = (
  Outcome.reads (record { minor = 1; phases = [] ∷ []; names = [] }),
  inl (begins_phase, refl, refl),
  (
    Outcome.reads begun,
    inl (begins_thread 0, (omega arith, refl), refl),
    (
      Outcome.reads defined,
      inl (states (CreateInstance (id "a") 1), one_name, refl),
      (
        Outcome.reads third,
        inl (begins_phase, refl, refl),
        (
          Outcome.reads fourth,
          inl (begins_thread 1, (omega arith, refl), refl),
          (outcome_of 6 fourth (states (DestroyInstance (id "a"))), inl (states (DestroyInstance (id "a")), one_end, refl), refl),
        ),
      ),
    ),
  ),
)
