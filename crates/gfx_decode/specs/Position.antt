-- Where a decoder is between blocks.
use Rattle.gfx_model.specs.Blocks as blocks
use Rattle.gfx_decode.specs.declared.position.Position.{Position}

-- a position, as the definitions of the file have it
abbrev pub position_of : Position → blocks.Position
position_of at = record {
  number = at.number;
  offset = at.offset;
  in_section = at.in_section;
  inside = at.inside;
  outside = at.outside;
}
