mod PlainWords
mod TaskWords
