-- Each event's checks ask for new ids among those that it creates.
use Rattle.std.proofs.Common.{◌≡◌, ℕ, true, refl, ap, subst, List, [], ◌∷◌, ◌++◌, ◌==◌}
use Rattle.std.specs.List.{AllByRecursion}
use Rattle.gfx_model.specs.Events.{Event}
use Rattle.gfx_model.specs.Events.Event.{CreateInstance, CreateHeadlessSurfaceEXT, CreateDevice, GetDeviceQueue, AllocateMemory, CreateBuffer, CreateImage, CreateCommandPool, AllocateCommandBuffers, CreateFence, CreateSemaphore, CreateSwapchainKHR, GetSwapchainImagesKHR}
use Rattle.gfx_model.specs.Checks.{is_among, is_distinct}
use Rattle.gfx_model.specs.Checks.Check.{room}
use Rattle.gfx_model.specs.Table.{row_of, place_of, checks_of, new_each}
use Rattle.gfx_script_model.specs.Ids.{defines_of}
use Rattle.gfx_model.proofs.Lists.{all_append, all_along, any_append}
use Rattle.gfx_taken_law.proofs.OldChecks.{AsksForNone}
use Rattle.gfx_taken_law.proofs.OldRows.{none_in_row, none_in_place}
use Rattle.gfx_taken_law.proofs.NewIds.{Asks, IsFresh, AreFresh, none_asks, among_one, distinct_fresh, each_asks}

plain : (xs : List ℕ) → xs ++ [] ≡ xs
plain [] = refl
plain (x ∷ xs) = ap (λ r. x ∷ r) (plain xs)

pub among_plain : (xs : List ℕ) (x : ℕ) → is_among x xs ≡ true → is_among x (xs ++ []) ≡ true
among_plain xs x m = any_append (λ y. y == x) xs [] m

fresh_one : (x : ℕ) → IsFresh (x ∷ []) [] x
fresh_one x = (among_one x, refl)

fresh_each : (xs : List ℕ) → is_distinct (xs ++ []) ≡ true → AreFresh (xs ++ []) [] xs
fresh_each xs d = distinct_fresh (xs ++ []) [] xs (among_plain xs) (λ x m. refl) (subst (λ z. is_distinct z ≡ true) (plain xs) d)

row_asks : (m : ℕ) (e : Event) → is_distinct (defines_of m e) ≡ true → AllByRecursion (Asks (defines_of m e)) (row_of e)
unfolding row_of defines_of
row_asks m (CreateInstance instance api) d = (fresh_one instance, (tt, tt))
row_asks m (CreateHeadlessSurfaceEXT instance surface) d = (tt, (fresh_one surface, (tt, tt)))
row_asks m (CreateDevice instance device) d = (tt, (fresh_one device, (tt, tt)))
row_asks m (GetDeviceQueue device queue) d = (tt, (among_one queue, tt))
row_asks m (AllocateMemory device memory size) d = (tt, (fresh_one memory, (tt, (tt, (tt, tt)))))
row_asks m (CreateBuffer device buffer size usage) d = (tt, (fresh_one buffer, (tt, (tt, tt))))
row_asks m (CreateImage device image format width height usage) d = (tt, (fresh_one image, (tt, (tt, (tt, tt)))))
row_asks m (CreateCommandPool device pool flags) d = (tt, (fresh_one pool, (tt, (tt, tt))))
row_asks m (AllocateCommandBuffers device pool buffers) d =
    (tt, (tt, (tt, (tt, (tt, all_append (Asks (buffers ++ [])) (new_each [] buffers) (room _ ∷ []) (each_asks (buffers ++ []) [] buffers (fresh_each buffers d)) (tt, tt))))))
row_asks m (CreateFence device fence flags) d = (tt, (fresh_one fence, (tt, (tt, tt))))
row_asks m (CreateSemaphore device semaphore) d = (tt, (fresh_one semaphore, (tt, tt)))
row_asks m (CreateSwapchainKHR device swapchain surface images format width height usage) d =
    (tt, (tt, (tt, (fresh_one swapchain, (tt, (tt, (tt, (tt, (tt, tt)))))))))
row_asks m (GetSwapchainImagesKHR device swapchain images) d = (tt, (tt, (tt, (fresh_each images d, tt))))
row_asks m e d = all_along AsksForNone (Asks (defines_of m e)) (none_asks (defines_of m e)) (row_of e) (none_in_row e tt)

pub checks_ask : (m : ℕ) (e : Event) → is_distinct (defines_of m e) ≡ true → AllByRecursion (Asks (defines_of m e)) (checks_of e)
checks_ask m e d =
    all_append (Asks (defines_of m e)) (place_of e) (row_of e) (all_along AsksForNone (Asks (defines_of m e)) (none_asks (defines_of m e)) (place_of e) (none_in_place e)) (row_asks m e d)
