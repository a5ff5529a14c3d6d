-- The paper's example, whole output from whole input, computed from the definition.
-- Assumes nothing.
use mathlib.Core.Path.{◌≡◌, refl}
use mathlib.Core.List.{[], ◌∷◌}
use Rattle.galois.specs.Gf.{xtime, times, mul, pow, inv}
use Rattle.gf256.proofs.Known.{fips}
use Rattle.linear.specs.Rows.{take_piece, reduce, drop_empty, backward, backward_at, clear_above, forward, forward_at, clear_pivoted, pivot_from, clear_below, clear_by, scale_row, add_multiple, swap_rows, first_nonzero, entry, all_zero}
use Rattle.linear.specs.Buffer.{rows_of, flat}
use Rattle.block.specs.Sizes.{over_limit, sized}
use Rattle.block.specs.Reading.{last_marker, read_at, reading, answer_of, data_length}
use Rattle.stream.specs.Geometries.{geometry_of, same_geometry}
use Rattle.stream.specs.Records.{fits_in, piece_record, kind_record, record_at}
use Rattle.stream.specs.Streams.{stream_from, stream_of}
use Rattle.decoder.specs.Records.{sound, bad_state, held_rows}
use Rattle.decoder.specs.Answers.{taken_number}
use Rattle.decoder.specs.Entries.{take_refusal, rows_after, after, taking, block_in, recover_refusal}
use Rattle.decoder.specs.Calls.{number_next, record_next, buffer_next}
use Rattle.listing.specs.Text.{decimal_by, decimal, hex}
use Rattle.listing.specs.Lines.{piece_line, end_line, stop_line, data_line}
use Rattle.listing.specs.Joining.{decoder_for, matrix_for, joined, line_of, answer_to, decoder_after, elements_after, joined_after, line_for}
use Rattle.listing.specs.Listing.{end_answer, data_of, end_lines, lines_from, listing_of}

pub example : listing_of fips (17 ∷ 0 ∷ 0 ∷ 1 ∷ 129 ∷ 0 ∷ 17 ∷ 0 ∷ 0 ∷ 1 ∷ 129 ∷ 0 ∷ 17 ∷ 0 ∷ 0 ∷ 1 ∷ 129 ∷ 0 ∷ 17 ∷ 0 ∷ 1 ∷ 0 ∷ 99 ∷ 100 ∷ 17 ∷ 1 ∷ 0 ∷ 0 ∷ 97 ∷ 98 ∷ 1 ∷ []) ≡ 110 ∷ 32 ∷ 97 ∷ 110 ∷ 115 ∷ 119 ∷ 101 ∷ 114 ∷ 32 ∷ 114 ∷ 111 ∷ 119 ∷ 115 ∷ 32 ∷ 116 ∷ 97 ∷ 107 ∷ 101 ∷ 110 ∷ 10 ∷ 49 ∷ 32 ∷ 48 ∷ 32 ∷ 49 ∷ 32 ∷ 49 ∷ 10 ∷ 50 ∷ 32 ∷ 48 ∷ 32 ∷ 50 ∷ 32 ∷ 50 ∷ 10 ∷ 51 ∷ 32 ∷ 48 ∷ 32 ∷ 49 ∷ 32 ∷ 51 ∷ 10 ∷ 52 ∷ 32 ∷ 48 ∷ 32 ∷ 50 ∷ 32 ∷ 52 ∷ 10 ∷ 53 ∷ 32 ∷ 48 ∷ 32 ∷ 51 ∷ 32 ∷ 53 ∷ 10 ∷ 101 ∷ 110 ∷ 100 ∷ 32 ∷ 48 ∷ 32 ∷ 52 ∷ 32 ∷ 48 ∷ 10 ∷ 54 ∷ 49 ∷ 54 ∷ 50 ∷ 54 ∷ 51 ∷ 54 ∷ 52 ∷ 10 ∷ []
unfolding xtime times mul pow inv take_piece reduce drop_empty backward backward_at clear_above forward forward_at clear_pivoted pivot_from clear_below clear_by scale_row add_multiple swap_rows first_nonzero entry all_zero rows_of flat over_limit sized last_marker read_at reading answer_of data_length geometry_of same_geometry fits_in piece_record kind_record record_at stream_from stream_of sound bad_state held_rows taken_number take_refusal rows_after after taking block_in recover_refusal number_next record_next buffer_next decimal_by decimal hex piece_line end_line stop_line data_line decoder_for matrix_for joined line_of answer_to decoder_after elements_after joined_after line_for end_answer data_of end_lines lines_from listing_of
example = refl
