-- Two more runs: of frames of every kind with lines that are no frames, and of a session that gets full. Their answers are those of reference/model.c.
-- Assumes nothing.
use Rattle.std.specs.Prelude.{ℕ, false, List, [], ◌∷◌, ◌++◌, codes}
use Rattle.worked.specs.Runs.{Pair, line}

-- Parts 10 and 11 of docs/MODEL.md, "The calls" and "Returned when refused", in one run. A frame of every kind is accepted, with fields that are all
-- unequal: with any two of them exchanged some answer is another. Each kind is refused too, and lines of every sort are no frames.
unfoldable pub every_kind : List Pair
every_kind =
    -- the tables: the last user, role and database, and a number above
    line "01ff3f" "0000000001"
    ∷ line "01ff40" "02"
    ∷ line "01ff3f" "03"
    ∷ line "010105" "0000000002"
    ∷ line "010106" "0000000003"
    ∷ line "010207" "0000000004"
    ∷ line "020208" "04"
    ∷ line "020207" "0000000004"
    ∷ line "010206" "0000000005"
    ∷ line "03050a" "0000000006"
    ∷ line "03050a" "03"
    ∷ line "03053f" "0000000007"
    ∷ line "04053f" "0000000008"
    ∷ line "033f0a" "0000000009"
    ∷ line "033f0c" "000000000a"
    ∷ line "03060c" "000000000b"
    ∷ line "030709" "000000000b"
    ∷ line "100908" "04"
    ∷ line "100709" "000000000b"
    ∷ line "100709" "03"
    ∷ line "040709" "0f"
    ∷ line "050a0b" "000000000b"
    ∷ line "050b3f" "000000000b"
    -- no frames: a capital digit, a carriage return, a blank, bytes that are no digits, an odd number of digits, a field too many, unknown kinds,
    -- the empty line, a blank alone, one digit, an addition of 21 and one of 23 digits
    ∷ line "01Ff05" "01"
    ∷ record { frame = codes "010108" ++ (0x0d ∷ []); answer = codes "01"; starred = false }
    ∷ line "010108 " "01"
    ∷ line "01010g" "01"
    ∷ line "01010:" "01"
    ∷ line "0101080" "01"
    ∷ line "01010800" "01"
    ∷ line "000108" "01"
    ∷ line "110108" "01"
    ∷ line "ff0108" "01"
    ∷ line "" "01"
    ∷ line " " "01"
    ∷ line "0" "01"
    ∷ line "080f0a000000000000000" "01"
    ∷ line "080f0a00000000000000000" "01"
    -- the server: its last session and a number above; forwarding closes, and 5 comes before 3; 6 comes before 10; a read of each row
    ∷ line "060f" "000000000b"
    ∷ line "060f" "03"
    ∷ line "0610" "02"
    ∷ line "070a0f" "06"
    ∷ line "08030a0000000000000000" "06"
    ∷ line "080f0a0000000000000000" "0000030000000b"
    ∷ line "070f0c" "008000000000000060"
    ∷ line "080f0c0000000000000080" "08"
    ∷ line "080f0c8000000000000040" "0001010000000b"
    ∷ line "0a0f01" "000000000b800000000000004080000000000000208000000000000040"
    ∷ line "0a0f02" "0a"
    ∷ line "0a0307" "06"
    ∷ line "050b3f" "05"
    ∷ line "053f40" "02"
    ∷ line "09020f010c" "00"
    ∷ line "09010f010c" "0e"
    ∷ line "09ff0f000b" "0c"
    ∷ line "09ff0f0030" "0b"
    ∷ line "09ff0f0230" "0a"
    ∷ line "09ff0302ff" "02"
    ∷ line "09ff03010c" "06"
    ∷ line "09ff0f010c" "0e"
    ∷ line "103f0c" "000000000b"
    ∷ line "01ff07" "000000000c"
    ∷ line "09ff0f010c" "00"
    ∷ line "010107" "000000000d"
    ∷ line "09010f010c" "0d"
    ∷ line "010208" "000000000e"
    ∷ line "09020f000b" "0c"
    -- the term bank: its session of the same number
    ∷ line "0b0f" "000000000e"
    ∷ line "0b0f" "03"
    ∷ line "0c030a" "06"
    ∷ line "0d030a0000000000000000" "06"
    ∷ line "0d0f0a0000000000000000" "0000030000000e"
    ∷ line "0c0f0c" "0080000000000000e0"
    ∷ line "0d0f0c0000000000000080" "0001010000000e"
    ∷ line "0e020f010c" "00"
    ∷ line "0e010f010c" "0e"
    ∷ line "0f0f01" "000000000e000000000000008080000000000000208000000000000040"
    ∷ line "0f0f08" "02"
    ∷ []

-- its last line is a frame that lacks its line feed
abbrev pub unended : List ℕ
unended = codes "0601"

abbrev pub malformed : List ℕ
malformed = codes "01" ++ (0x0a ∷ [])

-- Eight flows are accepted. The ninth gets 7, and not 8 for its chosen role, which isn't conflicting. Flow 7 is there, and 8 is above the limit.
unfoldable pub full_session : List Pair
full_session =
    line "0603" "0000000000"
    ∷ line "0803100000000000000000" "00000100000000"
    ∷ line "0803110000000000000000" "00010100000000"
    ∷ line "0803120000000000000000" "00020100000000"
    ∷ line "0803130000000000000000" "00030100000000"
    ∷ line "0803140000000000000000" "00040100000000"
    ∷ line "0803150000000000000000" "00050100000000"
    ∷ line "0803160000000000000000" "00060100000000"
    ∷ line "08033f0000000000000000" "00070100000000"
    ∷ line "07033f" "07"
    ∷ line "08033f0000000000000001" "07"
    ∷ line "0902030730" "0b"
    ∷ line "0902030830" "02"
    ∷ line "0a0308" "02"
    ∷ []
