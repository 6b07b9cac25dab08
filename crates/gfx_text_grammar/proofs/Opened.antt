-- The definitions that examples compute.
use Rattle.std.specs.Prelude.{ℕ}
use Rattle.gfx_script_model.specs.EventNames.{event_name}
use Rattle.gfx_script_model.specs.Ids.{uses_of, defines_of, map_ids}
use Rattle.gfx_script_model.specs.Names.{digits_within}
use Rattle.gfx_text_grammar.specs.StatementReading.{read_statement}
use Rattle.gfx_text_grammar.specs.Parsing.{form_of, line_outcome, parse_from, parse_of}
use Rattle.gfx_model.specs.Spelling.{fields_of, spelling, id_of, type_of, payload, encoding}
use Rattle.gfx_model.specs.Blocks.{header_fault, start_fault}
use Rattle.gfx_text_grammar.specs.Words.{is_number_text, number_in, bytes_of, raw_in}
use Rattle.gfx_text_grammar.specs.Reading.{read_word, read_comma, read_between, read_as, read_items, read_list}
use Rattle.gfx_text_grammar.specs.FieldReading.{whole, read_field, read_made, read_both}
use Rattle.gfx_text_grammar.specs.Rows.{exactly, present_row, by_name, read_event}
use Rattle.gfx_text_grammar.specs.Splits.{whole_lines, each_read}
use Rattle.gfx_text_grammar.specs.Lines.{read_skipped, read_marker, read_threaded, read_line}
use Rattle.gfx_text_grammar.specs.Listings.{read_pair, read_header, read_lines, read_listing}

-- what reads text, and what spells it
unfoldable pub all : ℕ
unfolding event_name uses_of defines_of map_ids digits_within read_statement form_of line_outcome parse_from parse_of fields_of spelling id_of type_of payload encoding header_fault is_number_text number_in bytes_of raw_in read_word read_comma read_between read_as read_items read_list whole read_field read_made read_both exactly present_row by_name read_event whole_lines each_read read_skipped read_marker read_threaded read_line read_pair read_header read_lines read_listing start_fault
all = 0
