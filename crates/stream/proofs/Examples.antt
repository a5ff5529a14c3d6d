-- The examples: antt computes each from the definitions.
-- Assumes nothing.
use mathlib.Core.Path.{refl}
use Rattle.stream.specs.Geometries.{geometry_of, same_geometry}
use Rattle.stream.specs.Records.{fits_in, piece_record, kind_record, record_at}
use Rattle.stream.specs.Streams.{stream_from, stream_of}
use Rattle.stream.specs.Examples.{Examples}

pub examples : Examples
unfolding geometry_of same_geometry fits_in piece_record kind_record record_at stream_from stream_of
examples =
    record {
      nothing = refl;
      end_alone = refl;
      behind_the_end = refl;
      no_end = refl;
      cut_short = refl;
      second_geometry = refl;
      unlisted = refl;
    }
