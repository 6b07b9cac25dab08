-- Styles that read other numbers read the events with these.
use Rattle.std.proofs.Common.{◌≡◌, ℕ, nat_eq, Bool, true, false, cond, List, [], map, Option, Some, None, refl}
use Prim.Native.String.{String}
use Rattle.gfx_model.specs.Events.Event.{CreateInstance, DestroyInstance, CreateHeadlessSurfaceEXT, DestroySurfaceKHR, CreateDevice, DestroyDevice, GetDeviceQueue, AllocateMemory, FreeMemory, MapMemory, UnmapMemory, CreateBuffer, DestroyBuffer, BindBufferMemory, CreateImage, DestroyImage, BindImageMemory, CreateCommandPool, DestroyCommandPool, ResetCommandPool, AllocateCommandBuffers, FreeCommandBuffers, BeginCommandBuffer, EndCommandBuffer, ResetCommandBuffer, CmdPipelineBarrier, CmdFillBuffer, CmdUpdateBuffer, CmdCopyBuffer, CmdCopyImage, CmdCopyBufferToImage, CmdCopyImageToBuffer, CmdClearColorImage, CreateFence, DestroyFence, ResetFences, WaitForFences, GetFenceStatus, CreateSemaphore, DestroySemaphore, QueueSubmit, QueueWaitIdle, DeviceWaitIdle, CreateSwapchainKHR, DestroySwapchainKHR, GetSwapchainImagesKHR, AcquireNextImageKHR, QueuePresentKHR, FillMemory, InitImage, SetSwapchainState, SetSemaphoreState, BeginSection, EndSection}
use Rattle.gfx_script_model.specs.Ids.{map_ids}
use Rattle.gfx_grammar.specs.Reading.{◌>>=◌}
use Rattle.gfx_grammar.specs.Rows.{with1, with2, with3, with4, with5, with6, with7, with8}
use Rattle.gfx_text_grammar.specs.Reading.{Style, read_buffer_region, read_image_region, read_mixed_region, read_present}
use Rattle.gfx_text_grammar.specs.FieldReading.{Left, FieldReader, read_new, read_new_each, ◌⊛◌}
use Rattle.gfx_text_grammar.specs.Rows.{id_field, maybe_field, wide_field, short_field, raw_field, ids_field, words_field, records_field, exactly, with_one, present_row, calls, metas, markers, rows_of, read_event}
use Rattle.gfx_text.specs.Renumbered.{renumbered}
use Rattle.gfx_text.proofs.Mapping.{mapped, MapsFields, maps_list, maps_whole, maps_field, maps_both}
use Rattle.gfx_text.proofs.RenumberedParts.{id_maps, maybe_maps, ids_maps, barrier_maps, present_maps, submit_maps, each_maps, made_maps, MapsRow, maps_row, MapsRows, maps_by_name}

-- ---- the fields of a style

module _ (f : ℕ → ℕ) (s : Style) where
  names : (name : String) → MapsFields f (id_field s name) (id_field (renumbered f s) name)
  names name = maps_field name (id_maps f s)

  makes : (name : String) → MapsFields f (read_new s name) (read_new (renumbered f s) name)
  makes name = made_maps f s name (id_maps f s) (maps_whole (id_maps f s))

  maybes : (name : String) → MapsFields f (maybe_field s name) (maybe_field (renumbered f s) name)
  maybes name = maps_field name (maybe_maps f s)

  names_each : (name : String) → MapsFields (map f) (ids_field s name) (ids_field (renumbered f s) name)
  names_each name = maps_field name (ids_maps f s)

  makes_each : (name : String) → MapsFields (map f) (read_new_each s name) (read_new_each (renumbered f s) name)
  makes_each name = made_maps f s name (ids_maps f s) (each_maps f s)

  others : {X : Type 0} (r : FieldReader X) → MapsFields (λ x. x) r r
  others {X} r = record { fact = λ left. by (r left) }
    where
      by : (o : Option (X × Left)) → o ≡ mapped (λ x. x) o
      by None = refl
      by (Some x) = refl

  -- ---- rows

  present_maps_row : (m : ℕ) → MapsRow f (present_row s m) (present_row (renumbered f s) m)
  unfolding present_row map_ids
  present_maps_row m left = by (nat_eq m 1)
    where
      one : MapsRow f (exactly with_one (id_field s "queue" ⊛ ids_field s "waits" ⊛ id_field s "swapchain" ⊛ short_field "index"))
          (exactly with_one (id_field (renumbered f s) "queue" ⊛ ids_field (renumbered f s) "waits" ⊛ id_field (renumbered f s) "swapchain" ⊛ short_field "index"))
      one = maps_row f with_one (λ x. refl) (maps_both (names "queue") (maps_both (names_each "waits") (maps_both (names "swapchain") (others (short_field "index")))))

      many : MapsRow f (exactly (with3 QueuePresentKHR) (id_field s "queue" ⊛ ids_field s "waits" ⊛ records_field "presents" (read_present s)))
          (exactly (with3 QueuePresentKHR) (id_field (renumbered f s) "queue" ⊛ ids_field (renumbered f s) "waits" ⊛ records_field "presents" (read_present (renumbered f s))))
      many = maps_row f (with3 QueuePresentKHR) (λ x. refl) (maps_both (names "queue") (maps_both (names_each "waits") (maps_field "presents" (maps_list (present_maps f s)))))

      by : (b : Bool)
          → cond b (exactly with_one (id_field (renumbered f s) "queue" ⊛ ids_field (renumbered f s) "waits" ⊛ id_field (renumbered f s) "swapchain" ⊛ short_field "index") left)
          (exactly (with3 QueuePresentKHR) (id_field (renumbered f s) "queue" ⊛ ids_field (renumbered f s) "waits" ⊛ records_field "presents" (read_present (renumbered f s))) left)
          ≡ (cond b (exactly with_one (id_field s "queue" ⊛ ids_field s "waits" ⊛ id_field s "swapchain" ⊛ short_field "index") left)
          (exactly (with3 QueuePresentKHR) (id_field s "queue" ⊛ ids_field s "waits" ⊛ records_field "presents" (read_present s)) left)
          >>= λ e. Some (map_ids f e))
      by true = one left
      by false = many left

  calls_map : (m : ℕ) → MapsRows f (calls s m) (calls (renumbered f s) m)
  unfolding map_ids
  calls_map m = (
    refl,
    (
      maps_row f (with2 CreateInstance) (λ x. refl) (maps_both (makes "instance") (others (short_field "api"))),
      (
        refl,
        (
          maps_row f (with1 DestroyInstance) (λ x. refl) (names "instance"),
          (
            refl,
            (
              maps_row f (with2 CreateHeadlessSurfaceEXT) (λ x. refl) (maps_both (names "instance") (makes "surface")),
              (
                refl,
                (
                  maps_row f (with2 DestroySurfaceKHR) (λ x. refl) (maps_both (names "instance") (names "surface")),
                  (
                    refl,
                    (
                      maps_row f (with2 CreateDevice) (λ x. refl) (maps_both (names "instance") (makes "device")),
                      (
                        refl,
                        (
                          maps_row f (with1 DestroyDevice) (λ x. refl) (names "device"),
                          (
                            refl,
                            (
                              maps_row f (with2 GetDeviceQueue) (λ x. refl) (maps_both (names "device") (makes "queue")),
                              (
                                refl,
                                (
                                  maps_row f (with3 AllocateMemory) (λ x. refl) (maps_both (names "device") (maps_both (makes "memory") (others (wide_field "size")))),
                                  (
                                    refl,
                                    (
                                      maps_row f (with2 FreeMemory) (λ x. refl) (maps_both (names "device") (names "memory")),
                                      (
                                        refl,
                                        (
                                          maps_row f (with4 MapMemory) (λ x. refl) (maps_both (names "device") (maps_both (names "memory") (maps_both (others (wide_field "offset")) (others (wide_field "size"))))),
                                          (
                                            refl,
                                            (
                                              maps_row f (with2 UnmapMemory) (λ x. refl) (maps_both (names "device") (names "memory")),
                                              (
                                                refl,
                                                (
                                                  maps_row f (with4 CreateBuffer) (λ x. refl) (maps_both (names "device") (maps_both (makes "buffer") (maps_both (others (wide_field "size")) (others (short_field "usage"))))),
                                                  (
                                                    refl,
                                                    (
                                                      maps_row f (with2 DestroyBuffer) (λ x. refl) (maps_both (names "device") (names "buffer")),
                                                      (
                                                        refl,
                                                        (
                                                          maps_row f (with4 BindBufferMemory) (λ x. refl) (maps_both (names "device") (maps_both (names "buffer") (maps_both (names "memory") (others (wide_field "offset"))))),
                                                          (
                                                            refl,
                                                            (
                                                              maps_row f (with6 CreateImage) (λ x. refl) (maps_both (names "device") (maps_both (makes "image") (maps_both (others (short_field "format")) (maps_both (others (short_field "width")) (maps_both (others (short_field "height")) (others (short_field "usage"))))))),
                                                              (
                                                                refl,
                                                                (
                                                                  maps_row f (with2 DestroyImage) (λ x. refl) (maps_both (names "device") (names "image")),
                                                                  (
                                                                    refl,
                                                                    (
                                                                      maps_row f (with4 BindImageMemory) (λ x. refl) (maps_both (names "device") (maps_both (names "image") (maps_both (names "memory") (others (wide_field "offset"))))),
                                                                      (
                                                                        refl,
                                                                        (
                                                                          maps_row f (with3 CreateCommandPool) (λ x. refl) (maps_both (names "device") (maps_both (makes "pool") (others (short_field "flags")))),
                                                                          (
                                                                            refl,
                                                                            (
                                                                              maps_row f (with2 DestroyCommandPool) (λ x. refl) (maps_both (names "device") (names "pool")),
                                                                              (
                                                                                refl,
                                                                                (
                                                                                  maps_row f (with2 ResetCommandPool) (λ x. refl) (maps_both (names "device") (names "pool")),
                                                                                  (
                                                                                    refl,
                                                                                    (
                                                                                      maps_row f (with3 AllocateCommandBuffers) (λ x. refl) (maps_both (names "device") (maps_both (names "pool") (makes_each "buffers"))),
                                                                                      (
                                                                                        refl,
                                                                                        (
                                                                                          maps_row f (with3 FreeCommandBuffers) (λ x. refl) (maps_both (names "device") (maps_both (names "pool") (names_each "buffers"))),
                                                                                          (
                                                                                            refl,
                                                                                            (
                                                                                              maps_row f (with2 BeginCommandBuffer) (λ x. refl) (maps_both (names "cb") (others (short_field "flags"))),
                                                                                              (
                                                                                                refl,
                                                                                                (
                                                                                                  maps_row f (with1 EndCommandBuffer) (λ x. refl) (names "cb"),
                                                                                                  (
                                                                                                    refl,
                                                                                                    (
                                                                                                      maps_row f (with1 ResetCommandBuffer) (λ x. refl) (names "cb"),
                                                                                                      (
                                                                                                        refl,
                                                                                                        (
                                                                                                          maps_row f (with2 CmdPipelineBarrier) (λ x. refl) (maps_both (names "cb") (maps_field "barriers" (maps_list (barrier_maps f s)))),
                                                                                                          (
                                                                                                            refl,
                                                                                                            (
                                                                                                              maps_row f (with5 CmdFillBuffer) (λ x. refl) (maps_both (names "cb") (maps_both (names "buffer") (maps_both (others (wide_field "offset")) (maps_both (others (wide_field "size")) (others (short_field "word")))))),
                                                                                                              (
                                                                                                                refl,
                                                                                                                (
                                                                                                                  maps_row f (with4 CmdUpdateBuffer) (λ x. refl) (maps_both (names "cb") (maps_both (names "buffer") (maps_both (others (wide_field "offset")) (others (raw_field "bytes"))))),
                                                                                                                  (
                                                                                                                    refl,
                                                                                                                    (
                                                                                                                      maps_row f (with4 CmdCopyBuffer) (λ x. refl) (maps_both (names "cb") (maps_both (names "source") (maps_both (names "target") (others (records_field "regions" (read_buffer_region s)))))),
                                                                                                                      (
                                                                                                                        refl,
                                                                                                                        (
                                                                                                                          maps_row f (with6 CmdCopyImage) (λ x. refl) (maps_both (names "cb") (maps_both (names "source") (maps_both (others (short_field "source_layout")) (maps_both (names "target") (maps_both (others (short_field "target_layout")) (others (records_field "regions" (read_image_region s)))))))),
                                                                                                                          (
                                                                                                                            refl,
                                                                                                                            (
                                                                                                                              maps_row f (with5 CmdCopyBufferToImage) (λ x. refl) (maps_both (names "cb") (maps_both (names "source") (maps_both (names "target") (maps_both (others (short_field "layout")) (others (records_field "regions" (read_mixed_region s))))))),
                                                                                                                              (
                                                                                                                                refl,
                                                                                                                                (
                                                                                                                                  maps_row f (with5 CmdCopyImageToBuffer) (λ x. refl) (maps_both (names "cb") (maps_both (names "source") (maps_both (others (short_field "layout")) (maps_both (names "target") (others (records_field "regions" (read_mixed_region s))))))),
                                                                                                                                  (
                                                                                                                                    refl,
                                                                                                                                    (
                                                                                                                                      maps_row f (with7 CmdClearColorImage) (λ x. refl) (maps_both (names "cb") (maps_both (names "image") (maps_both (others (short_field "layout")) (maps_both (others (short_field "c0")) (maps_both (others (short_field "c1")) (maps_both (others (short_field "c2")) (others (short_field "c3")))))))),
                                                                                                                                      (
                                                                                                                                        refl,
                                                                                                                                        (
                                                                                                                                          maps_row f (with3 CreateFence) (λ x. refl) (maps_both (names "device") (maps_both (makes "fence") (others (short_field "flags")))),
                                                                                                                                          (
                                                                                                                                            refl,
                                                                                                                                            (
                                                                                                                                              maps_row f (with2 DestroyFence) (λ x. refl) (maps_both (names "device") (names "fence")),
                                                                                                                                              (
                                                                                                                                                refl,
                                                                                                                                                (
                                                                                                                                                  maps_row f (with2 ResetFences) (λ x. refl) (maps_both (names "device") (names_each "fences")),
                                                                                                                                                  (
                                                                                                                                                    refl,
                                                                                                                                                    (
                                                                                                                                                      maps_row f (with4 WaitForFences) (λ x. refl) (maps_both (names "device") (maps_both (names_each "fences") (maps_both (others (short_field "wait_all")) (others (short_field "answer"))))),
                                                                                                                                                      (
                                                                                                                                                        refl,
                                                                                                                                                        (
                                                                                                                                                          maps_row f (with3 GetFenceStatus) (λ x. refl) (maps_both (names "device") (maps_both (names "fence") (others (short_field "answer")))),
                                                                                                                                                          (
                                                                                                                                                            refl,
                                                                                                                                                            (
                                                                                                                                                              maps_row f (with2 CreateSemaphore) (λ x. refl) (maps_both (names "device") (makes "semaphore")),
                                                                                                                                                              (
                                                                                                                                                                refl,
                                                                                                                                                                (
                                                                                                                                                                  maps_row f (with2 DestroySemaphore) (λ x. refl) (maps_both (names "device") (names "semaphore")),
                                                                                                                                                                  (
                                                                                                                                                                    refl,
                                                                                                                                                                    (
                                                                                                                                                                      maps_row f (with3 QueueSubmit) (λ x. refl) (maps_both (names "queue") (maps_both (maps_field "submits" (maps_list (submit_maps f s))) (maybes "fence"))),
                                                                                                                                                                      (
                                                                                                                                                                        refl,
                                                                                                                                                                        (
                                                                                                                                                                          maps_row f (with1 QueueWaitIdle) (λ x. refl) (names "queue"),
                                                                                                                                                                          (
                                                                                                                                                                            refl,
                                                                                                                                                                            (
                                                                                                                                                                              maps_row f (with1 DeviceWaitIdle) (λ x. refl) (names "device"),
                                                                                                                                                                              (
                                                                                                                                                                                refl,
                                                                                                                                                                                (
                                                                                                                                                                                  maps_row f (with8 CreateSwapchainKHR) (λ x. refl) (maps_both (names "device") (maps_both (makes "swapchain") (maps_both (names "surface") (maps_both (others (short_field "images")) (maps_both (others (short_field "format")) (maps_both (others (short_field "width")) (maps_both (others (short_field "height")) (others (short_field "usage"))))))))),
                                                                                                                                                                                  (
                                                                                                                                                                                    refl,
                                                                                                                                                                                    (
                                                                                                                                                                                      maps_row f (with2 DestroySwapchainKHR) (λ x. refl) (maps_both (names "device") (names "swapchain")),
                                                                                                                                                                                      (
                                                                                                                                                                                        refl,
                                                                                                                                                                                        (
                                                                                                                                                                                          maps_row f (with3 GetSwapchainImagesKHR) (λ x. refl) (maps_both (names "device") (maps_both (names "swapchain") (makes_each "images"))),
                                                                                                                                                                                          (
                                                                                                                                                                                            refl,
                                                                                                                                                                                            (
                                                                                                                                                                                              maps_row f (with6 AcquireNextImageKHR) (λ x. refl) (maps_both (names "device") (maps_both (names "swapchain") (maps_both (maybes "semaphore") (maps_both (maybes "fence") (maps_both (others (short_field "index")) (others (short_field "answer"))))))),
                                                                                                                                                                                              (refl, (present_maps_row m, tt)),
                                                                                                                                                                                            ),
                                                                                                                                                                                          ),
                                                                                                                                                                                        ),
                                                                                                                                                                                      ),
                                                                                                                                                                                    ),
                                                                                                                                                                                  ),
                                                                                                                                                                                ),
                                                                                                                                                                              ),
                                                                                                                                                                            ),
                                                                                                                                                                          ),
                                                                                                                                                                        ),
                                                                                                                                                                      ),
                                                                                                                                                                    ),
                                                                                                                                                                  ),
                                                                                                                                                                ),
                                                                                                                                                              ),
                                                                                                                                                            ),
                                                                                                                                                          ),
                                                                                                                                                        ),
                                                                                                                                                      ),
                                                                                                                                                    ),
                                                                                                                                                  ),
                                                                                                                                                ),
                                                                                                                                              ),
                                                                                                                                            ),
                                                                                                                                          ),
                                                                                                                                        ),
                                                                                                                                      ),
                                                                                                                                    ),
                                                                                                                                  ),
                                                                                                                                ),
                                                                                                                              ),
                                                                                                                            ),
                                                                                                                          ),
                                                                                                                        ),
                                                                                                                      ),
                                                                                                                    ),
                                                                                                                  ),
                                                                                                                ),
                                                                                                              ),
                                                                                                            ),
                                                                                                          ),
                                                                                                        ),
                                                                                                      ),
                                                                                                    ),
                                                                                                  ),
                                                                                                ),
                                                                                              ),
                                                                                            ),
                                                                                          ),
                                                                                        ),
                                                                                      ),
                                                                                    ),
                                                                                  ),
                                                                                ),
                                                                              ),
                                                                            ),
                                                                          ),
                                                                        ),
                                                                      ),
                                                                    ),
                                                                  ),
                                                                ),
                                                              ),
                                                            ),
                                                          ),
                                                        ),
                                                      ),
                                                    ),
                                                  ),
                                                ),
                                              ),
                                            ),
                                          ),
                                        ),
                                      ),
                                    ),
                                  ),
                                ),
                              ),
                            ),
                          ),
                        ),
                      ),
                    ),
                  ),
                ),
              ),
            ),
          ),
        ),
      ),
    ),
  )

  metas_map : MapsRows f (metas s) (metas (renumbered f s))
  unfolding map_ids
  metas_map = (
    refl,
    (
      maps_row f (with3 FillMemory) (λ x. refl) (maps_both (names "memory") (maps_both (others (wide_field "offset")) (others (raw_field "bytes")))),
      (
        refl,
        (
          maps_row f (with3 InitImage) (λ x. refl) (maps_both (names "image") (maps_both (others (short_field "layout")) (others (raw_field "bytes")))),
          (
            refl,
            (
              maps_row f (with2 SetSwapchainState) (λ x. refl) (maps_both (names "swapchain") (others (words_field "acquired"))),
              (
                refl,
                (
                  maps_row f (with2 SetSemaphoreState) (λ x. refl) (maps_both (names "semaphore") (others (short_field "signalled"))),
                  tt,
                ),
              ),
            ),
          ),
        ),
      ),
    ),
  )

  markers_map : MapsRows f (markers s) (markers (renumbered f s))
  unfolding map_ids
  markers_map =
      (refl, (maps_row f (with1 BeginSection) (λ x. refl) (others (wide_field "frame")), (refl, (maps_row f (with1 EndSection) (λ x. refl) (others (wide_field "frame")), tt))))

  pub events_renumbered : (m kind : ℕ) (name : List ℕ) (left : Left)
      → read_event (renumbered f s) m kind name left ≡ (read_event s m kind name left >>= λ e. Some (map_ids f e))
  unfolding read_event
  events_renumbered m kind name left =
      maps_by_name f (rows_of s m kind) (rows_of (renumbered f s) m kind) (by (nat_eq kind 4) (nat_eq kind 3) (nat_eq kind 2)) name left
    where
      by : (a b c : Bool) → MapsRows f (cond a (calls s m) (cond b (metas s) (cond c (markers s) [])))
          (cond a (calls (renumbered f s) m) (cond b (metas (renumbered f s)) (cond c (markers (renumbered f s)) [])))
      by true b c = calls_map m
      by false true c = metas_map
      by false false true = markers_map
      by false false false = tt
