use Rattle.std.proofs.Common.{[], ◌∷◌, subst}
use Rattle.gfx_model.specs.Events.{event_of_call}
use Rattle.gfx_model.specs.Steps.{resources_of}
use Rattle.gfx_commands.specs.Uses.{HasPlaces}
use Rattle.gfx_commands.proofs.Places.{place_for}
use Rattle.gfx_commands.proofs.uses.Uses.add.Goals as goal

pub name-requires-in-CmdCopyBuffer-2 : goal.name-requires-in-CmdCopyBuffer-2
unfolding resources_of
name-requires-in-CmdCopyBuffer-2 c =
    let two = subst (λ call. HasPlaces c.args.self.now.table (resources_of (event_of_call call))) c.in-CmdCopyBuffer.is c.requires in
    place_for c.name-in-CmdCopyBuffer.new.self.table c.in-CmdCopyBuffer.target [] (c.name-in-CmdCopyBuffer.ensures.places (c.in-CmdCopyBuffer.target ∷ []) two)

pub ask-requires-in-CmdCopyImage : goal.ask-requires-in-CmdCopyImage
unfolding resources_of
ask-requires-in-CmdCopyImage c =
    let two = subst (λ call. HasPlaces c.args.self.now.table (resources_of (event_of_call call))) c.in-CmdCopyImage.is c.requires in
    place_for c.ask.new.self.table c.in-CmdCopyImage.target [] (c.ask.ensures.places (c.in-CmdCopyImage.target ∷ []) two)

pub ask-requires-in-CmdCopyBufferToImage : goal.ask-requires-in-CmdCopyBufferToImage
unfolding resources_of
ask-requires-in-CmdCopyBufferToImage c =
    let two = subst (λ call. HasPlaces c.args.self.now.table (resources_of (event_of_call call))) c.in-CmdCopyBufferToImage.is c.requires in
    place_for c.name-in-CmdCopyBufferToImage.new.self.table c.in-CmdCopyBufferToImage.target [] (c.name-in-CmdCopyBufferToImage.ensures.places (c.in-CmdCopyBufferToImage.target ∷ []) two)

pub name-requires-in-CmdCopyImageToBuffer : goal.name-requires-in-CmdCopyImageToBuffer
unfolding resources_of
name-requires-in-CmdCopyImageToBuffer c =
    let two = subst (λ call. HasPlaces c.args.self.now.table (resources_of (event_of_call call))) c.in-CmdCopyImageToBuffer.is c.requires in
    place_for c.ask-in-CmdCopyImageToBuffer.new.self.table c.in-CmdCopyImageToBuffer.target [] (c.ask-in-CmdCopyImageToBuffer.ensures.places (c.in-CmdCopyImageToBuffer.target ∷ []) two)
