mod WorkLemmas
