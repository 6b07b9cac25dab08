-- The events of the capture can be written.
use Rattle.std.proofs.Common.{◌≡◌, ◌≤◌, ◌<◌, ◌^◌, ℕ, zero, suc, Bool, true, ◌&&◌, ◌==◌, nat_le, nat_lt, [], ◌∷◌, ◌+◌, ◌-◌, List, length, refl, arith}
use Rattle.std.specs.Prelude.{flat_map, map}
use Rattle.std.specs.List.{list_all, range_with_len, AllByRecursion}
use Rattle.std.proofs.lemmas.Bool.{and_parts, leb-true, ltb-true, eqb-true}
use Rattle.std.proofs.lemmas.Nat.{mod_below}
use Rattle.gfx_model.specs.Events.{Event}
use Rattle.gfx_model.specs.Events.Event.{CreateInstance, QueuePresentKHR, FillMemory, AcquireNextImageKHR}
use Rattle.gfx_model.specs.Spelling.{Field, FieldFits, IsOfVersion, fields_of, spelling, id_of, type_of, payload}
use Rattle.gfx_model.specs.Spelling.Field.{id, u64, u32, raw}
use Rattle.gfx_model.proofs.Lists.{all_append}
use Rattle.gfx_grammar.specs.Framing.{CanBeWritten}
use Rattle.gfx_section_law.proofs.Sizes.{fill_small}
use Rattle.gfx_make.specs.Made.{device, images, memory, buffers, signals, recording, waits, resets, submits, shows, setup, frame_byte, frame_bytes, frame_with, frame_events, made}
use Rattle.gfx_make.proofs.Valid.{length_frame, image, offset}

-- ---- events that can be looked at

abbrev pub field_fits : Field → Bool
field_fits (id n) = nat_lt n (2 ^ 64)
field_fits (u64 n) = nat_lt n (2 ^ 64)
field_fits (u32 n) = nat_lt n (2 ^ 32)
field_fits (raw bytes) = nat_lt (length bytes) (2 ^ 64) && list_all (λ b. nat_lt b 256) bytes

abbrev pub shows_one : Event → Bool
shows_one (QueuePresentKHR _ _ presents) = length presents == 1
shows_one (CreateInstance instance api) = true
shows_one e = true

-- the event can be written
unfoldable pub is_writable : Event → Bool
is_writable e = shows_one e && (list_all field_fits (fields_of 1 e) && nat_le (length (payload 1 0 e)) (2 ^ 27))

all_below : (bytes : List ℕ) → list_all (λ b. nat_lt b 256) bytes ≡ true → AllByRecursion (λ b. b < 256) bytes
all_below [] is = tt
all_below (b ∷ bytes) is = let p = and_parts (nat_lt b 256) _ is in (ltb-true b 256 p.0, all_below bytes p.1)

one_fits : (f : Field) → field_fits f ≡ true → FieldFits f
one_fits (id n) is = ltb-true n (2 ^ 64) is
one_fits (u64 n) is = ltb-true n (2 ^ 64) is
one_fits (u32 n) is = ltb-true n (2 ^ 32) is
one_fits (raw bytes) is = let p = and_parts (nat_lt (length bytes) (2 ^ 64)) _ is in (ltb-true (length bytes) (2 ^ 64) p.0, all_below bytes p.1)

all_fit : (fs : List Field) → list_all field_fits fs ≡ true → AllByRecursion FieldFits fs
all_fit [] is = tt
all_fit (f ∷ fs) is = let p = and_parts (field_fits f) _ is in (one_fits f p.0, all_fit fs p.1)

of_version : (e : Event) → shows_one e ≡ true → IsOfVersion 1 e
of_version (QueuePresentKHR _ _ presents) is = λ one. eqb-true (length presents) 1 is
of_version (CreateInstance instance api) is = tt
of_version e is = tt

writable : (e : Event) → is_writable e ≡ true → CanBeWritten 1 0 e
unfolding is_writable
writable e is =
    let p = and_parts (shows_one e) _ is in
    let q = and_parts (list_all field_fits (fields_of 1 e)) _ p.1 in
    record {
      fits = record { version = of_version e p.0; fields = all_fit (fields_of 1 e) q.0 };
      thread_fits = (omega arith, λ marker. refl);
      small = leb-true (length (payload 1 0 e)) (2 ^ 27) q.1;
    }

pub all_writable : (es : List Event) → list_all is_writable es ≡ true → AllByRecursion (CanBeWritten 1 0) es
all_writable [] is = tt
all_writable (e ∷ es) is = let p = and_parts (is_writable e) _ is in (writable e p.0, all_writable es p.1)

unfoldable pub opened : ℕ
unfolding is_writable fields_of spelling id_of type_of payload
opened = 0

-- ---- the setup and the frames

pub setup_writable : AllByRecursion (CanBeWritten 1 0) setup
unfolding opened setup
setup_writable = all_writable setup refl

pub device_writable : AllByRecursion (CanBeWritten 1 0) device
unfolding opened
device_writable = all_writable device refl

pub images_writable : AllByRecursion (CanBeWritten 1 0) images
unfolding opened
images_writable = all_writable images refl

pub memory_writable : AllByRecursion (CanBeWritten 1 0) memory
unfolding opened
memory_writable = all_writable memory refl

pub buffers_writable : AllByRecursion (CanBeWritten 1 0) buffers
unfolding opened
buffers_writable = all_writable buffers refl

pub signals_writable : AllByRecursion (CanBeWritten 1 0) signals
unfolding opened
signals_writable = all_writable signals refl

pub recording_writable : (i : ℕ) → i < 2 → AllByRecursion (CanBeWritten 1 0) (recording i)
unfolding opened
recording_writable zero two = all_writable (recording zero) refl
recording_writable (suc zero) two = all_writable (recording 1) refl
recording_writable (suc (suc i)) two = absurd (omega (arith, two))

-- bytes can be filled in
pub fill_writable : (o : ℕ) (bytes : List ℕ) → o < 2 ^ 64 → length bytes ≤ 65536 → AllByRecursion (λ b. b < 256) bytes → CanBeWritten 1 0 (FillMemory 8 o bytes)
unfolding fields_of
fill_writable o bytes at few are = record {
  fits = record { version = tt; fields = (omega arith, (at, ((omega (arith, few), are), tt))) };
  thread_fits = (omega arith, λ marker. refl);
  small = (fill_small 1 8 o bytes (omega (arith, few))).0;
}

pub frame_writable : (i o : ℕ) (bytes : List ℕ) → i < 2 → CanBeWritten 1 0 (FillMemory 8 o bytes) → AllByRecursion (CanBeWritten 1 0) (frame_with i o bytes)
unfolding opened
frame_writable zero o bytes two fill = (writable _ refl, (writable _ refl, (fill, (writable _ refl, (writable _ refl, (writable _ refl, tt))))))
frame_writable (suc zero) o bytes two fill = (writable _ refl, (writable _ refl, (fill, (writable _ refl, (writable _ refl, (writable _ refl, tt))))))
frame_writable (suc (suc i)) o bytes two fill = absurd (omega (arith, two))

-- the same of events that are those of a frame
pub frame_said : (i o : ℕ) (bytes : List ℕ) (a b s p : Event) → i < 2 → CanBeWritten 1 0 (FillMemory 8 o bytes) →
    a ≡ waits → b ≡ resets → s ≡ submits (11 + i) → p ≡ shows i →
    AllByRecursion (CanBeWritten 1 0) (a ∷ b ∷ FillMemory 8 o bytes ∷ AcquireNextImageKHR 3 5 13 0 i 0 ∷ s ∷ p ∷ [])
frame_said i o bytes a b s p two fill wait reset submit show = rw wait (rw reset (rw submit (rw show (frame_writable i o bytes two fill))))

bytes_below : (k a n : ℕ) → AllByRecursion (λ b. b < 256) (map (frame_byte k) (range_with_len a n))
bytes_below k a zero = tt
bytes_below k a (suc n) = (mod_below _ 256 (omega arith), bytes_below k (a + 1) n)

pub frame_events_writable : (k : ℕ) → AllByRecursion (CanBeWritten 1 0) (frame_events k)
unfolding frame_events frame_bytes
frame_events_writable k =
    let long = length_frame k in
    let part = mod_below (k - 1) 30 (omega arith) in
    frame_writable (image k) (offset k) (frame_bytes k) (mod_below (k - 1) 2 (omega arith))
    (fill_writable (offset k) (frame_bytes k) (omega (arith, part)) (omega (arith, long)) (bytes_below k 0 40960))

frames_writable : (n k : ℕ) → AllByRecursion (CanBeWritten 1 0) (flat_map frame_events (range_with_len k n))
frames_writable zero k = tt
frames_writable (suc n) k =
    all_append (CanBeWritten 1 0) (frame_events k) (flat_map frame_events (range_with_len (k + 1) n)) (frame_events_writable k) (frames_writable n (k + 1))

pub made_writable : (n : ℕ) → AllByRecursion (CanBeWritten 1 0) (made n)
unfolding made
made_writable n = all_append (CanBeWritten 1 0) setup (flat_map frame_events (range_with_len 1 n)) setup_writable (frames_writable n 1)
