-- Worked examples of scripts, computed.
use Rattle.gfx_text_grammar.proofs.Opened.{all}
use Rattle.std.specs.Prelude.{◌≡◌, ℕ, List, [], ◌∷◌, ◌++◌, flat_map, map, Some, None, refl, codes}
use Rattle.gfx_model.specs.Events.{Event}
use Rattle.gfx_model.specs.Events.Event.{CreateDevice, DeviceWaitIdle, CmdPipelineBarrier, CreateInstance, FillMemory, QueueSubmit, AllocateCommandBuffers}
use Rattle.gfx_script_model.specs.Statements.{tokens_of}
use Rattle.gfx_script_model.specs.Statements.Form.{skips, begins_thread, states}
use Rattle.gfx_script_model.specs.Scripts.{Parsed, parses, fails, structure, name_unknown, name_taken, bad_byte, bad_line}
use Rattle.gfx_script_model.specs.Names.{code, name_of}
use Rattle.gfx_text_grammar.specs.Parsing.{form_of, parse_of}
use Rattle.gfx_model.specs.Text.{line}
use Prim.Native.String.{String}
use Rattle.gfx_model.proofs.ExampleCaptures as captures
use Rattle.gfx_model.proofs.ExampleCaptures.{f1}

-- the id that a name stands for
abbrev id : String → ℕ
id name = code (codes name)

ex_code : code (codes "ab") ≡ 12641
ex_code = refl

ex_name : name_of 12641 ≡ codes "ab"
unfolding all
ex_name = refl

ex_statement : form_of 1 (tokens_of (codes "inst = vkCreateInstance api=4194304")) ≡ Some (states (CreateInstance (id "inst") 4194304))
unfolding all
ex_statement = refl

ex_barrier : form_of 1 (tokens_of (codes "vkCmdPipelineBarrier cb=cb barriers=[(img,0,7)]")) ≡ Some (states (CmdPipelineBarrier (id "cb") (record { image = id "img"; before = 0; after = 7 } ∷ [])))
unfolding all
ex_barrier = refl

ex_write : form_of 1 (tokens_of (codes "  write memory=mem  offset=0 bytes=616263 ")) ≡ Some (states (FillMemory (id "mem") 0 (97 ∷ 98 ∷ 99 ∷ [])))
unfolding all
ex_write = refl

ex_two : form_of 1 (tokens_of (codes "a,b = vkAllocateCommandBuffers device=dev pool=pool"))
    ≡ Some (states (AllocateCommandBuffers (id "dev") (id "pool") (id "a" ∷ id "b" ∷ [])))
unfolding all
ex_two = refl

-- a field that may be 0, and one that may not
ex_none : form_of 1 (tokens_of (codes "vkQueueSubmit queue=q submits=[([],[cb],[])] fence=0"))
    ≡ Some (states (QueueSubmit (id "q") (record { waits = []; cbs = id "cb" ∷ []; signals = [] } ∷ []) 0))
unfolding all
ex_none = refl

ex_zero_name : form_of 1 (tokens_of (codes "vkDeviceWaitIdle device=0")) ≡ None
unfolding all
ex_zero_name = refl

-- a call that creates an id has a name, and another has none
ex_no_name : form_of 1 (tokens_of (codes "vkCreateInstance api=1")) ≡ None
unfolding all
ex_no_name = refl

ex_name_too_many : form_of 1 (tokens_of (codes "a = vkDeviceWaitIdle device=d")) ≡ None
unfolding all
ex_name_too_many = refl

ex_no_number : form_of 1 (tokens_of (codes "vkDeviceWaitIdle device=3")) ≡ None
unfolding all
ex_no_number = refl

ex_comment : form_of 1 (tokens_of (codes "# vkDeviceWaitIdle")) ≡ Some skips
unfolding all
ex_comment = refl

ex_thread : form_of 1 (tokens_of (codes "thread 63")) ≡ Some (begins_thread 63)
unfolding all
ex_thread = refl

ex_thread_high : form_of 1 (tokens_of (codes "thread 64")) ≡ None
unfolding all
ex_thread_high = refl

-- a script, and two with a fault
ex_script : parse_of (line (codes "phase") ++ line (codes "thread 0") ++ line (codes "inst = vkCreateInstance api=4194304") ++ line (codes "dev = vkCreateDevice instance=inst") ++ codes "vkDeviceWaitIdle device=dev")
    ≡ parses 1 ((record { thread = 0; lines = record { number = 3; event = CreateInstance 1 4194304 } ∷ record { number = 4; event = CreateDevice 1 2 } ∷ record { number = 5; event = DeviceWaitIdle 2 } ∷ [] } ∷ []) ∷ [])
unfolding all
ex_script = refl

ex_structure : parse_of (line (codes "phase") ++ line (codes "vkDeviceWaitIdle device=d")) ≡ fails 2 structure
unfolding all
ex_structure = refl

ex_unknown : parse_of (line (codes "phase") ++ line (codes "thread 0") ++ line (codes "vkDeviceWaitIdle device=d")) ≡ fails 3 name_unknown
unfolding all
ex_unknown = refl

-- a name that nothing defines comes before one that is taken; a name is taken by an earlier line, or by the line itself
ex_unknown_first : parse_of (line (codes "phase") ++ line (codes "thread 0") ++ line (codes "a = vkCreateInstance api=1") ++ codes "a = vkCreateDevice instance=b") ≡ fails 4 name_unknown
unfolding all
ex_unknown_first = refl

ex_taken : parse_of (line (codes "phase") ++ line (codes "thread 0") ++ line (codes "a = vkCreateInstance api=1") ++ codes "a = vkCreateDevice instance=a") ≡ fails 4 name_taken
unfolding all
ex_taken = refl

ex_twice : parse_of (line (codes "phase") ++ line (codes "thread 0") ++ line (codes "d = vkCreateInstance api=1") ++ line (codes "p = vkCreateInstance api=1") ++ codes "a,a = vkAllocateCommandBuffers device=d pool=p") ≡ fails 5 name_taken
unfolding all
ex_twice = refl

-- a byte that isn't printed comes before all else, and version 2 out of its place is no bad line
ex_byte : parse_of (line (codes "# comment") ++ 9 ∷ codes "version 2") ≡ fails 2 bad_byte
unfolding all
ex_byte = refl

ex_version : parse_of (line (codes "version 2") ++ codes "version 2") ≡ fails 2 structure
unfolding all
ex_version = refl

-- no line, and lines that are skipped
ex_empty : parse_of [] ≡ parses 1 []
unfolding all
ex_empty = refl

ex_skipped : parse_of (line [] ++ line (codes "  # comment") ++ line (codes "version 2") ++ codes "   ") ≡ parses 2 []
unfolding all
ex_skipped = refl

ex_line : parse_of (line (codes "phase") ++ line (codes "thread 00")) ≡ fails 2 bad_line
unfolding all
ex_line = refl

-- the script of the smallest capture, line by line
abbrev first_script : List ℕ
first_script = flat_map line (codes "phase"
    ∷ codes "thread 0"
    ∷ codes "inst = vkCreateInstance api=4194304"
    ∷ codes "surf = vkCreateHeadlessSurfaceEXT instance=inst"
    ∷ codes "dev = vkCreateDevice instance=inst"
    ∷ codes "q = vkGetDeviceQueue device=dev"
    ∷ codes "sc = vkCreateSwapchainKHR device=dev surface=surf images=1 format=13 width=3 height=1 usage=3"
    ∷ codes "img = vkGetSwapchainImagesKHR device=dev swapchain=sc"
    ∷ codes "f = vkCreateFence device=dev flags=0"
    ∷ codes "mem = vkAllocateMemory device=dev size=64"
    ∷ codes "vkMapMemory device=dev memory=mem offset=0 size=18446744073709551615"
    ∷ codes "write memory=mem offset=0 bytes=616263"
    ∷ codes "buf = vkCreateBuffer device=dev size=16 usage=1"
    ∷ codes "vkBindBufferMemory device=dev buffer=buf memory=mem offset=0"
    ∷ codes "pool = vkCreateCommandPool device=dev flags=2"
    ∷ codes "cb = vkAllocateCommandBuffers device=dev pool=pool"
    ∷ codes "vkBeginCommandBuffer cb=cb flags=0"
    ∷ codes "vkCmdPipelineBarrier cb=cb barriers=[(img,0,7)]"
    ∷ codes "vkCmdCopyBufferToImage cb=cb source=buf target=img layout=7 regions=[(0,0,0,0,0,3,1)]"
    ∷ codes "vkCmdPipelineBarrier cb=cb barriers=[(img,7,1000001002)]"
    ∷ codes "vkEndCommandBuffer cb=cb"
    ∷ codes "vkAcquireNextImageKHR device=dev swapchain=sc semaphore=0 fence=f index=0 answer=0"
    ∷ codes "vkQueueSubmit queue=q submits=[([],[cb],[])] fence=0"
    ∷ codes "vkQueuePresentKHR queue=q waits=[] swapchain=sc index=0" ∷ [])

-- its events are those of the capture, whose ids are the numbers of its names
abbrev events_of : Parsed → List Event
events_of (parses m phases) = flat_map (λ parts. flat_map (λ p. map (λ l. l.event) p.lines) parts) phases
events_of (fails n kind) = []

ex_first_script : events_of (parse_of first_script) ≡ f1
unfolding all captures.all
ex_first_script = refl
